use Rattle.std.proofs.Common.{refl}
use Rattle.bindings.proofs.Laws.{enter_scope-exit, enter_scope-lookup}
use Rattle.bindings.proofs.Bindings.enter_scope.Goals as goal

pub returns-clause-closes : goal.returns-clause-closes
returns-clause-closes c = enter_scope-exit c.args.self.now _ c.push_scope.result c.push_scope.ensures.value _ refl

pub returns-clause-lookups : goal.returns-clause-lookups
returns-clause-lookups c = enter_scope-lookup c.args.self.now _ c.push_scope.result c.push_scope.ensures.value
