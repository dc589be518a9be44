-- Converter definitions, and the records that write them.
use Rattle.std.specs.Prelude.{◌≡◌, ◌≤◌, List, [], ◌∷◌, length}
use Rattle.records.specs.Parts.{slice}
use Rattle.records.specs.declared.source.Node.TheVariants as node
use Rattle.records.specs.declared.source.Part.{Part}
use Rattle.records.specs.declared.source.Source.{Source}
use Rattle.definition.specs.declared.converter.Converter.{Converter}
use Rattle.definition.specs.declared.converter.Ident.{Ident}

abbrev pub ident_record : Ident → Source
ident_record i = record { node = node.Ident i.name; size = 1; pos = i.pos }

-- three placed names, and the converter over them
abbrev pub converter_records : Converter → List Source
converter_records c =
    ident_record c.term ∷ ident_record c.inner_ty ∷ ident_record c.outer_ty ∷ record { node = node.Converter; size = 4; pos = c.pos } ∷ []

-- the part lies in the list, and its records write the definition
abbrev pub WritesConverter : List Source → Part → Converter → Type 0
WritesConverter source p c = (p.end ≤ length source) × (slice source p ≡ converter_records c)
