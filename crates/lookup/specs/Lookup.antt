-- What names stand for.
use Rattle.std.specs.Prelude.{ℕ, Bool, ◌&&◌, List, Some, None, Option, ◌==◌, find, position}
use Rattle.std.specs.Option.{option_map}
use Rattle.std.specs.Str.{bytes_eq}
use Rattle.records.specs.declared.env.Constant.{Constant}
use Rattle.records.specs.declared.env.Symbol.{Symbol}
use Rattle.records.specs.declared.env.Term.{Term}
use Rattle.records.specs.declared.env.«Type».{«Type» as Ty}
use Rattle.records.specs.declared.ids.Sym.{Sym}
use Rattle.records.specs.declared.ids.TermId.{TermId}
use Rattle.records.specs.declared.ids.TypeId.{TypeId}
use Rattle.records.specs.declared.result.Converter.{Converter}
use Rattle.records.specs.declared.source.Name.{Name}
use Rattle.records.specs.Parts.{bytes}
use Rattle.tables.specs.Tables.{Env}

-- the symbol that has these bytes
abbrev pub symbol_of : List ℕ → List Symbol → List ℕ → Option Sym
symbol_of text symbols name = option_map (λ i. record { 0 = i }) (position (λ s. bytes_eq (bytes text s.name) name) symbols)

abbrev pub same_sym : Sym → Sym → Bool
same_sym s t = s.0 == t.0

-- the type that the symbol names
abbrev pub type_of : List Ty → Sym → Option TypeId
type_of types sym = option_map (λ i. record { 0 = i }) (position (λ t. same_sym t.name sym) types)

-- the term that the symbol names
abbrev pub term_of : List Term → Sym → Option TermId
term_of terms sym = option_map (λ i. record { 0 = i }) (position (λ t. same_sym t.name sym) terms)

-- the type of the constant that the symbol names
abbrev pub constant_of : List Constant → Sym → Option TypeId
constant_of constants sym = option_map (λ c. c.ty) (find (λ c. same_sym c.name sym) constants)

-- a converter is known by its two types, inner and outer
abbrev pub Key : Type 0
Key = TypeId × TypeId

abbrev pub key_of : Converter → Key
key_of c = (c.inner_ty, c.outer_ty)

abbrev pub same_key : Key → Key → Bool
same_key k l = k.0.0 == l.0.0 && k.1.0 == l.1.0

-- the term that is the converter of these two types
abbrev pub converter_of : List Converter → Key → Option TermId
converter_of converters key = option_map (λ c. c.term) (find (λ c. same_key (key_of c) key) converters)

-- what comes of a name: of its symbol, if it has one
abbrev pub by_symbol : {X : Type 0} → (Sym → Option X) → Option Sym → Option X
by_symbol look None = None
by_symbol look (Some sym) = look sym

abbrev pub type_by_name : Env → Name → Option TypeId
type_by_name e name = by_symbol (type_of e.types) (symbol_of e.text e.symbols (bytes e.text name))

abbrev pub term_by_name : Env → Name → Option TermId
term_by_name e name = by_symbol (term_of e.terms) (symbol_of e.text e.symbols (bytes e.text name))
