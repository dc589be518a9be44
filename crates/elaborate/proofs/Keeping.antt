-- What the converter call leaves as it is: the environment, and everything where it is refused.
use Rattle.std.proofs.Common.{◌≡◌, length, nat_lt, IfErr, Some, None, Ok, Err, Option, Result, sym, refl, ap, subst, ⊎_elim}
use Rattle.std.proofs.lemmas.Bool.{cases_Bool}
use Rattle.table.specs.Contents.{Contents, Outcome, done, refused, outcome, put}
use Rattle.records.specs.declared.fault.Cause.{Cause}
use Rattle.records.specs.declared.ids.TermId.{TermId}
use Rattle.records.specs.declared.ids.TypeId.{TypeId}
use Rattle.records.specs.declared.refusal.Refusal.{Refusal}
use Rattle.records.specs.declared.refusal.TableId.{TableId}
use Rattle.records.specs.declared.source.Part.{Part}
use Rattle.records.specs.declared.source.Pos.{Pos}
use Rattle.tables.specs.Steps.{onto}
use Rattle.tables.specs.Tables.{env}
use Rattle.tables.specs.declared.Tables.{Tables}
use Rattle.lookup.specs.Lookup.{Key, type_by_name, term_by_name, converter_of}
use Rattle.definition.specs.declared.converter.Converter.{Converter as Definition}
use Rattle.elaborate.specs.Faults.{report, with_faults}
use Rattle.elaborate.specs.Converters.{add_converter, with_converters, register, with_term, with_outer, with_inner, convert, Converts, unlawful, lawful}

abbrev pub Keeps : {A : Type 0} → Tables → Outcome Tables A Refusal → Type 0
Keeps v (done w a) = env w ≡ env v
Keeps v (refused w x) = w ≡ v

-- adding to a table that is no part of the environment
adding : {T : Type 0} (t : TableId) (back : Contents T → Tables) (s : Contents T) (x : T) (v : Tables) → ((s' : Contents T) → env (back s') ≡ env v) → back s ≡ v
    → Keeps {A = Unit {0}} v (onto t back (put x s))
adding t back s x v outside same = ⊎_elim (λ room. rw room (outside _)) (λ full. rw full same) (cases_Bool (nat_lt (length s.items) s.limit))

reported : (c : Cause) (pos : Pos) (v : Tables) → Keeps v (report c pos v)
reported c pos v = adding _ (with_faults v) v.faults _ v (λ s. refl) refl

added : (key : Key) (term : TermId) (v : Tables) → Keeps v (add_converter key term v)
added key term v = adding _ (with_converters v) v.converters _ v (λ s. refl) refl

module _ (d : Definition) (v : Tables) where
  registered : (key : Key) (term : TermId) (o : Option TermId) → Keeps v (register d key term o v)
  registered key term (Some other) = reported _ _ v
  registered key term None = added key term v

  term_looked_up : (key : Key) (o : Option TermId) → Keeps v (with_term d key o v)
  term_looked_up key None = reported _ _ v
  term_looked_up key (Some term) = registered key term (converter_of v.converters.items key)

  outer_looked_up : (inner : TypeId) (o : Option TypeId) → Keeps v (with_outer d inner o v)
  outer_looked_up inner None = reported _ _ v
  outer_looked_up inner (Some outer) = term_looked_up (inner, outer) (term_by_name (env v) d.term.name)

  inner_looked_up : (o : Option TypeId) → Keeps v (with_inner d o v)
  inner_looked_up None = reported _ _ v
  inner_looked_up (Some inner) = outer_looked_up inner (type_by_name (env v) d.outer_ty.name)

  converted : Keeps v (convert d v)
  converted = inner_looked_up (type_by_name (env v) d.inner_ty.name)

pub converts_keeps : (p : Part) (v : Tables) (t : Outcome Tables (Unit {0}) Refusal) → Converts p v t → Keeps v t
converts_keeps p v t (unlawful i bad e) = subst (Keeps v) (sym e) refl
converts_keeps p v t (lawful d written e) = subst (Keeps v) (sym e) (converted d v)

pub kept : (v w : Tables) (r : Result (Unit {0}) Refusal) → Keeps v (outcome w r) → IfErr r (λ _. w ≡ v) × (env w ≡ env v)
kept v w (Ok a) h = (tt, h)
kept v w (Err e) h = (h, ap env h)
