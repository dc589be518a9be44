-- Registering converters.
use Rattle.std.specs.Prelude.{◌≡◌, ℕ, Some, None, Option}
use Rattle.table.specs.Contents.{Contents, Outcome, refused, put}
use Rattle.records.specs.declared.fault.Cause.TheVariants as cause
use Rattle.records.specs.declared.ids.TermId.{TermId}
use Rattle.records.specs.declared.ids.TypeId.{TypeId}
use Rattle.records.specs.declared.refusal.Refusal.{Refusal}
use Rattle.records.specs.declared.refusal.Refusal.TheVariants as refusal
use Rattle.records.specs.declared.refusal.TableId.TheVariants as table
use Rattle.records.specs.declared.result.Converter.{Converter}
use Rattle.records.specs.declared.source.Part.{Part}
use Rattle.tables.specs.Steps.{Step, onto}
use Rattle.tables.specs.Tables.{env}
use Rattle.tables.specs.declared.Tables.{Tables}
use Rattle.lookup.specs.Lookup.{Key, type_by_name, term_by_name, converter_of}
use Rattle.definition.specs.Converters.{WritesConverter}
use Rattle.definition.specs.Lawful.{FirstBad}
use Rattle.definition.specs.declared.converter.Converter.{Converter as Definition}
use Rattle.definition.specs.declared.grammar.Kind.TheVariants as kind
use Rattle.elaborate.specs.Faults.{report}

abbrev pub with_converters : Tables → Contents Converter → Tables
with_converters v s = record v { converters = s }

-- one more converter; a full list refuses it
abbrev pub add_converter : Key → TermId → Step (Unit {0})
add_converter key term v =
    onto table.Converters (with_converters v) (put (record { inner_ty = key.0; outer_ty = key.1; term = term }) v.converters)

module _ (d : Definition) where
  -- the pair of types is registered with the term, unless it has one
  abbrev pub register : Key → TermId → Option TermId → Step (Unit {0})
  register key term (Some other) v = report (cause.DuplicateConverter d.inner_ty.name d.outer_ty.name) d.pos v
  register key term None v = add_converter key term v

  abbrev pub with_term : Key → Option TermId → Step (Unit {0})
  with_term key None v = report (cause.UnknownConverterTerm d.term.name) d.term.pos v
  with_term key (Some term) v = register key term (converter_of v.converters.items key) v

  abbrev pub with_outer : TypeId → Option TypeId → Step (Unit {0})
  with_outer inner None v = report (cause.UnknownOuterType d.outer_ty.name) d.outer_ty.pos v
  with_outer inner (Some outer) v = with_term (inner, outer) (term_by_name (env v) d.term.name) v

  abbrev pub with_inner : Option TypeId → Step (Unit {0})
  with_inner None v = report (cause.UnknownInnerType d.inner_ty.name) d.inner_ty.pos v
  with_inner (Some inner) v = with_outer inner (type_by_name (env v) d.outer_ty.name) v

  -- The inner type, the outer type and the term are looked up in this order.
  -- The first that is not known is a fault at its name, and a pair that has a converter already is one at the definition.
  abbrev pub convert : Step (Unit {0})
  convert v = with_inner (type_by_name (env v) d.inner_ty.name) v

-- What a call that names a part of the source list leaves and answers:
-- a part that is no converter definition is refused, and nothing changes;
-- a converter definition is registered, or its fault is reported.
pub data Converts (p : Part) (v : Tables) (t : Outcome Tables (Unit {0}) Refusal) : Type 0 where
  unlawful : (i : ℕ) → FirstBad kind.Converter v.source.items p i → t ≡ refused v (refusal.UnlawfulDefinition i) → Converts p v t
  lawful : (d : Definition) → WritesConverter v.source.items p d → t ≡ convert d v → Converts p v t
