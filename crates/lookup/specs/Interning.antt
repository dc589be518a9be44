-- Interning: the symbol of a name, new or not.
use Rattle.std.specs.Prelude.{length, Some, None, Option}
use Rattle.table.specs.Contents.{done}
use Rattle.records.specs.Parts.{bytes}
use Rattle.records.specs.declared.ids.Sym.{Sym}
use Rattle.records.specs.declared.source.Name.{Name}
use Rattle.tables.specs.Steps.{Step, after, add_symbol}
use Rattle.lookup.specs.Lookup.{symbol_of}

-- a symbol that has the bytes, or a new one, whose number is how many there were
abbrev pub interned : Name → Option Sym → Step Sym
interned name (Some sym) v = done v sym
interned name None v = after (add_symbol (record { name = name }) v) (λ _ w. done w (record { 0 = length v.symbols.items }))

abbrev pub intern : Name → Step Sym
intern name v = interned name (symbol_of v.text.items v.symbols.items (bytes v.text.items name)) v
