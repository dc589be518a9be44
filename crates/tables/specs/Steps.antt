-- Calls that add to tables and may be refused, as functions on all tables.
use Rattle.std.specs.Prelude.{ℕ, suc, List, [], ◌∷◌, length}
use Rattle.table.specs.Contents.{Contents, Outcome, done, refused, put, put_all}
use Rattle.table.specs.declared.Full.{Full}
use Rattle.records.specs.declared.env.Symbol.{Symbol}
use Rattle.records.specs.declared.env.«Type».{«Type» as Ty}
use Rattle.records.specs.declared.refusal.Refusal.{Refusal}
use Rattle.records.specs.declared.refusal.Refusal.TheVariants as refusal
use Rattle.records.specs.declared.refusal.TableId.{TableId}
use Rattle.records.specs.declared.refusal.TableId.TheVariants as table
use Rattle.records.specs.declared.source.Name.{Name}
use Rattle.tables.specs.Lawful.{builtin_type}
use Rattle.tables.specs.declared.Tables.{Tables}

-- what a call leaves and answers, or what it leaves and why it is refused
abbrev pub Step : Type 0 → Type 0
Step A = Tables → Outcome Tables A Refusal

-- the next step, unless this one was refused
abbrev pub after : {A B : Type 0} → Outcome Tables A Refusal → (A → Step B) → Outcome Tables B Refusal
after (done v a) k = k a v
after (refused v e) k = refused v e

unfoldable pub ◌>>=◌ : {A B : Type 0} → Step A → (A → Step B) → Step B
◌>>=◌ m k v = after (m v) k

-- what adding to one table does to all of them; a full table is named
abbrev pub onto : {T A : Type 0} → TableId → (Contents T → Tables) → Outcome (Contents T) A Full → Outcome Tables A Refusal
onto t put_back (done s a) = done (put_back s) a
onto t put_back (refused s e) = refused (put_back s) (refusal.Full t)

abbrev pub with_text : Tables → Contents ℕ → Tables
with_text v s = record v { text = s }

abbrev pub with_types : Tables → Contents Ty → Tables
with_types v s = record v { types = s }

abbrev pub with_symbols : Tables → Contents Symbol → Tables
with_symbols v s = record v { symbols = s }

-- the bytes of a name, at the end of the text
abbrev pub add_name : List ℕ → Step Name
add_name bytes v =
    after (onto table.Text (with_text v) (put_all bytes v.text))
    (λ _ v'. done v' (record { start = length v.text.items; len = length bytes }))

abbrev pub add_symbol : Symbol → Step (Unit {0})
add_symbol s v = onto table.Symbols (with_symbols v) (put s v.symbols)

abbrev pub add_type : Ty → Step (Unit {0})
add_type t v = onto table.Types (with_types v) (put t v.types)

-- built-in type i: its name, the symbol of that name, the type
abbrev pub add_builtin : ℕ → List ℕ → Step (Unit {0})
add_builtin i bytes = ◌>>=◌ (add_name bytes) (λ n. ◌>>=◌ (add_symbol (record { name = n })) (λ _. add_type (builtin_type i)))

-- the built-in types from number i on, which have these names
abbrev pub add_builtins : ℕ → List (List ℕ) → Step (Unit {0})
add_builtins i [] = λ v. done v tt
add_builtins i (bytes ∷ names) = ◌>>=◌ (add_builtin i bytes) (λ _. add_builtins (suc i) names)
