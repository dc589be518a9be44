-- A symbol that is added for a name that none has yet: it is found from then on, and lawful tables stay lawful.
use Rattle.std.proofs.Common.{◌≡◌, ℕ, ◌+◌, ◌<◌, Bool, true, false, nat_lt, List, [], ◌∷◌, ◌++◌, length, get_or, Some, None, Option, sym, refl, ap, ◌∙◌, subst, inl, inr, lit<, arith}
use Rattle.std.proofs.lemmas.Bool.{cases_Bool, cases_lt, both_ways, lt-ltb}
use Rattle.std.proofs.lemmas.List.{length_push, get_or_push, get_or_append_left}
use Rattle.std.proofs.lemmas.List.Sums.{position_or_len_is, fails_before_first}
use Rattle.std.proofs.lemmas.Option.{slice_get-get_or, slice_get-map, slice_get_within, get_or_from_slice_get, none-some, same_Some}
use Rattle.std.proofs.lemmas.Slice.Eq.{bytes_eq-Decides}
use Rattle.std.specs.List.{slice_get, position, position_or_len}
use Rattle.std.specs.Option.{option_map}
use Rattle.std.specs.Str.{bytes_eq}
use Rattle.table.specs.Contents.{done, extended}
use Rattle.records.specs.Parts.{bytes}
use Rattle.records.specs.declared.env.Symbol.{Symbol}
use Rattle.records.specs.declared.ids.Sym.{Sym}
use Rattle.records.specs.declared.refusal.TableId.{TableId}
use Rattle.records.specs.declared.refusal.TableId.TheVariants as table
use Rattle.tables.specs.Lawful.{Lawful, Keeps, SymbolGood, names}
use Rattle.tables.specs.Names.{Inside}
use Rattle.tables.specs.Steps.{add_symbol, with_symbols}
use Rattle.tables.specs.Tables.{Env}
use Rattle.tables.specs.declared.Tables.{Tables}
use Rattle.lookup.specs.Lookup.{symbol_of}

-- what the added symbol leaves
pub added : (v w : Tables) (s : Symbol) → done w tt ≡ add_symbol s v → w ≡ with_symbols v (extended (s ∷ []) v.symbols)
added v w s step = elim (cases_Bool (nat_lt (length v.symbols.items) v.symbols.limit)) [
  | inl room ↦ let e = rw room at step in cc
  | inr full ↦ let e = rw full at step in cc
]

module _ {X : Type 0} (p : X → Bool) where
  -- where a search finds nothing, it passes at no place
  pub none_passes : (xs : List X) → position p xs ≡ None → (k : ℕ) (d : X) → k < length xs → p (get_or xs k d) ≡ false
  none_passes xs none k d within = elim (cases_lt (position_or_len p xs) (length xs)) [
    | inl found ↦ absurd (none-some (position_or_len p xs) (sym none ∙ rw (lt-ltb _ _ found) refl))
    | inr all ↦ fails_before_first p xs k d (omega (arith, all, within))
  ]

  -- where a search finds nothing, it finds what is put behind all, if that passes
  pub found_behind : (xs : List X) (x : X) → position p xs ≡ None → p x ≡ true → position p (xs ++ x ∷ []) ≡ Some (length xs)
  found_behind xs x none passes =
      let last = get_or_push xs x x (length xs) refl in
      let at : position_or_len p (xs ++ x ∷ []) ≡ length xs = position_or_len_is p (xs ++ x ∷ []) (length xs) x (omega (arith, length_push xs x))
      (λ k before. ap p (get_or_append_left xs (x ∷ []) x k before) ∙ none_passes xs none k x before) (λ within. ap p last ∙ passes) in
      rw (at, lt-ltb (length xs) (length (xs ++ x ∷ [])) (omega (arith, length_push xs x))) refl

no_symbol : (o : Option ℕ) → option_map (λ i. let s : Sym = record { 0 = i } in s) o ≡ None → o ≡ None
no_symbol None e = refl
no_symbol (Some i) e = absurd (none-some _ (sym e))

module _ (e : Env) (s : Symbol) (new : symbol_of e.text e.symbols (bytes e.text s.name) ≡ None) where
  -- the environment with the symbol
  abbrev pub more : Env
  more = record { text = e.text; types = e.types; constants = e.constants; terms = e.terms; source = e.source; symbols = e.symbols ++ s ∷ [] }

  -- the bytes mean the symbol from now on
  pub known : symbol_of more.text more.symbols (bytes more.text s.name) ≡ Some (record { 0 = length e.symbols })
  known =
      let same = (bytes_eq-Decides (bytes e.text s.name) (bytes e.text s.name)).1 refl in
      ap (option_map (λ i. record { 0 = i })) (found_behind (λ x. bytes_eq (bytes e.text x.name) (bytes e.text s.name)) e.symbols s (no_symbol _ new) same)

  long : length more.symbols ≡ length e.symbols + 1
  long = length_push e.symbols s

  -- a symbol there was
  old_at : (i : ℕ) → i < length e.symbols → slice_get more.symbols i ≡ slice_get e.symbols i
  old_at i within =
      slice_get-get_or more.symbols i s (omega (arith, long)) ∙ ap Some (get_or_append_left e.symbols (s ∷ []) s i within) ∙ sym (slice_get-get_or e.symbols i s within)

  name_at : (i : ℕ) → i < length e.symbols → slice_get (names more) i ≡ slice_get (names e) i
  name_at i within =
      let f = λ (x : Symbol). bytes e.text x.name in
      slice_get-map f more.symbols i ∙ ap (option_map f) (old_at i within) ∙ sym (slice_get-map f e.symbols i)

  name_last : slice_get (names more) (length e.symbols) ≡ Some (bytes e.text s.name)
  name_last =
      let f = λ (x : Symbol). bytes e.text x.name in
      let at = slice_get-get_or more.symbols (length e.symbols) s (omega (arith, long)) ∙ ap Some (get_or_push e.symbols s s (length e.symbols) refl) in
      slice_get-map f more.symbols (length e.symbols) ∙ ap (option_map f) at

  -- no symbol there was has the bytes
  other_bytes : (k : ℕ) → k < length e.symbols → slice_get (names e) k ≡ Some (bytes e.text s.name) → ⊥
  other_bytes k within same =
      let f = λ (x : Symbol). bytes e.text x.name in
      let at = slice_get-map f e.symbols k ∙ ap (option_map f) (slice_get-get_or e.symbols k s within) in
      let equal = same_Some _ _ (sym at ∙ same) in
      let passes = (bytes_eq-Decides (f (get_or e.symbols k s)) (bytes e.text s.name)).1 equal in
      both_ways _ (none_passes (λ x. bytes_eq (bytes e.text x.name) (bytes e.text s.name)) e.symbols (no_symbol _ new) k s within) passes

  module _ (inside : Inside e.text s.name) (lawful : Lawful e) where
    last_good : SymbolGood more (length e.symbols) s
    last_good = record {
      inside = inside;
      builtin = λ few. absurd (omega (arith, few, (lawful table.Symbols 12).0 (lit< tt)));
      new = λ j before same. other_bytes j before (sym (name_at j before) ∙ same ∙ name_last);
    }

    old_good : (i : ℕ) (x : Symbol) → i < length e.symbols → SymbolGood e i x → SymbolGood more i x
    old_good i x within good = record {
      inside = good.inside;
      builtin = good.builtin;
      new = λ j before same. let within_j : j < length e.symbols = omega (arith, before, within) in good.new j before (sym (name_at j within_j) ∙ same ∙ name_at i within);
    }

    symbol_good : (i : ℕ) (x : Symbol) → slice_get more.symbols i ≡ Some x → SymbolGood more i x
    symbol_good i x at = elim (cases_lt i (length e.symbols)) [
      | inl old ↦ old_good i x old ((lawful table.Symbols i).1 x (sym (old_at i old) ∙ at))
      | inr past ↦
          let last : length e.symbols ≡ i = omega (arith, past, long, slice_get_within more.symbols i x at) in
          let same = sym (get_or_push e.symbols s s i last) ∙ get_or_from_slice_get more.symbols i x s at in
          subst (λ n. SymbolGood more n x) last (subst (SymbolGood more (length e.symbols)) same last_good)
    ]

    -- lawful tables stay lawful
    pub keeps : (t : TableId) (i : ℕ) → Keeps more t i
    keeps table.Text i = tt
    keeps table.Types i = ((lawful table.Types i).0, λ x at. let good = (lawful table.Types i).1 x at in record { builtin = good.builtin; named = omega (arith, good.named, long); new = good.new })
    keeps table.Constants i = λ x at. let good = lawful table.Constants i x at in record { named = omega (arith, good.named, long); typed = good.typed; new = good.new }
    keeps table.Rules i = tt
    keeps table.Definitions i = tt
    keeps table.Faults i = tt
    keeps table.Terms i =
        λ x at. let good = lawful table.Terms i x at in
        record { named = omega (arith, good.named, long); few = good.few; args = good.args; ret = good.ret; new = good.new; template = good.template }
    keeps table.Source i = lawful table.Source i
    keeps table.Output i = tt
    keeps table.Symbols i = ((λ few. omega (arith, few, (lawful table.Symbols i).0 few, long)), symbol_good i)
    keeps table.Converters i = tt
    keeps table.Variables i = tt
    keeps table.Scopes i = tt
