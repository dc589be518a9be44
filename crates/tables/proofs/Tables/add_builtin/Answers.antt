use Rattle.tables.proofs.Chains.{then, stop, fails}
use Rattle.tables.proofs.Tables.add_builtin.Goals as goal

pub returns-in_err-name : goal.returns-in_err-name
returns-in_err-name c =
    rw (← c.builtin_name.ensures)
    (fails c.from_residual.result c.from_residual.ensures.1 (stop _ _ _ c.in_err-name.ensures))

pub returns-in_err-add_symbol : goal.returns-in_err-add_symbol
returns-in_err-add_symbol c =
    rw (← c.builtin_name.ensures)
    (fails c.from_residual-in_err-add_symbol.result c.from_residual-in_err-add_symbol.ensures.1
    (then _ _ _ c.in_ok-name.ensures (stop _ _ _ c.in_err-add_symbol.ensures)))

pub returns : goal.returns
returns c =
    rw (← c.builtin_name.ensures, ← c.builtin_type.ensures)
    (then _ _ _ c.in_ok-name.ensures (then _ _ _ c.in_ok-add_symbol.ensures c.add_type.ensures))
