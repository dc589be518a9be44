use Rattle.std.proofs.Common.{◌≡◌, ℕ, Some, sym, ap, ◌∙◌, subst}
use Rattle.records.specs.Parts.{bytes}
use Rattle.records.specs.declared.ids.Sym.{Sym}
use Rattle.records.specs.declared.refusal.TableId.{TableId}
use Rattle.tables.specs.Lawful.{Keeps}
use Rattle.tables.specs.Tables.{env}
use Rattle.tables.specs.declared.Tables.{Tables}
use Rattle.lookup.specs.Lookup.{symbol_of}
use Rattle.lookup.proofs.NewSymbols.{added, known, keeps}
use Rattle.lookup.proofs.interning.intern.Goals as goal

pub returns-clause-known : goal.returns-clause-known
returns-clause-known c =
    let v = c.args.tables.now in
    let new = sym c.symbol.ensures ∙ c.in_default.is in
    let Found : Tables → Type 0 = λ w. symbol_of w.text.items w.symbols.items (bytes w.text.items c.args.name) ≡ Some (record { 0 = c.len.result }) in
    subst Found (sym (added v c.add_symbol.new.self _ c.in_ok-add_symbol.ensures)) (known (env v) (record { name = c.args.name }) new ∙ ap (λ n. let s : Sym = record { 0 = n } in Some s) (sym c.len.ensures.value))

pub returns-clause-lawful : goal.returns-clause-lawful
returns-clause-lawful c inside lawful =
    let v = c.args.tables.now in
    let new = sym c.symbol.ensures ∙ c.in_default.is in
    subst (λ w. (t : TableId) (i : ℕ) → Keeps (env w) t i) (sym (added v c.add_symbol.new.self _ c.in_ok-add_symbol.ensures)) (keeps (env v) (record { name = c.args.name }) new inside lawful)
