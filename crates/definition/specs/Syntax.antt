-- Any piece of abstract syntax that a tree of the source list may be (converters apart): its root, the pieces right below it, and the records that lay it out.
use Rattle.std.specs.Prelude.{◌≡◌, ℕ, List, [], ◌∷◌, ◌++◌, map, Option, Some, None}
use Rattle.std.specs.List.{enumerate_from}
use Rattle.records.specs.declared.source.Expr.TheVariants as node_expr
use Rattle.records.specs.declared.source.Node.{Node}
use Rattle.records.specs.declared.source.Node.TheVariants as node
use Rattle.records.specs.declared.source.Pattern.TheVariants as node_pattern
use Rattle.records.specs.declared.source.Source.{Source}
use Rattle.definition.specs.PatternTrees.{At, Numbered, node_record, PatternTree, pattern_records, subpatterns}
use Rattle.definition.specs.PatternTrees as p
use Rattle.definition.specs.ExprTrees.{ExprTree, LetDefTree, let_def, LetDefTrees, expr_records, let_def_records, expr_list, let_def_list}
use Rattle.definition.specs.ExprTrees as e
use Rattle.definition.specs.RuleTrees.{IfLetTree, RuleTree, if_let_records, rule_records}

pub data Syntax : Type 0 where
  of_pattern : PatternTree → Syntax
  of_expr : ExprTree → Syntax
  of_let_def : LetDefTree → Syntax
  of_if_let : IfLetTree → Syntax
  of_rule : RuleTree → Syntax

abbrev pub syntax_records : Syntax → List Numbered
syntax_records (of_pattern p) = pattern_records p
syntax_records (of_expr e) = expr_records e
syntax_records (of_let_def d) = let_def_records d
syntax_records (of_if_let i) = if_let_records i
syntax_records (of_rule r) = rule_records r

abbrev pub pattern_root : PatternTree → At × Node
pattern_root (p.var at name) = (at, node.Pattern (node_pattern.Var name))
pattern_root (p.bind_pattern at name q) = (at, node.Pattern (node_pattern.BindPattern name))
pattern_root (p.const_bool at val) = (at, node.Pattern (node_pattern.ConstBool val))
pattern_root (p.const_int at val) = (at, node.Pattern (node_pattern.ConstInt val))
pattern_root (p.const_prim at name) = (at, node.Pattern (node_pattern.ConstPrim name))
pattern_root (p.term at name args) = (at, node.Pattern (node_pattern.Term name))
pattern_root (p.wildcard at) = (at, node.Pattern node_pattern.Wildcard)
pattern_root (p.«and» at qs) = (at, node.Pattern node_pattern.And)
pattern_root (p.macro_arg at index) = (at, node.Pattern (node_pattern.MacroArg index))

abbrev pub expr_root : ExprTree → At × Node
expr_root (e.term at name args) = (at, node.Expr (node_expr.Term name))
expr_root (e.var at name) = (at, node.Expr (node_expr.Var name))
expr_root (e.const_bool at val) = (at, node.Expr (node_expr.ConstBool val))
expr_root (e.const_int at val) = (at, node.Expr (node_expr.ConstInt val))
expr_root (e.const_prim at name) = (at, node.Expr (node_expr.ConstPrim name))
expr_root (e.«let» at defs body) = (at, node.Expr node_expr.Let)

abbrev pub let_def_root : LetDefTree → At × Node
let_def_root (let_def at name ty value) = (at, node.LetDef name ty)

-- what the root says, and where it stands
abbrev pub root_of : Syntax → At × Node
root_of (of_pattern p) = pattern_root p
root_of (of_expr e) = expr_root e
root_of (of_let_def d) = let_def_root d
root_of (of_if_let i) = (i.at, node.IfLet)
root_of (of_rule r) = (r.at, node.Rule r.prio r.name)

abbrev pub expr_children : ExprTree → List Syntax
expr_children (e.term at name args) = map of_expr (expr_list args)
expr_children (e.var at name) = []
expr_children (e.const_bool at val) = []
expr_children (e.const_int at val) = []
expr_children (e.const_prim at name) = []
expr_children (e.«let» at defs body) = map of_let_def (let_def_list defs) ++ of_expr body ∷ []

abbrev pub let_def_children : LetDefTree → List Syntax
let_def_children (let_def at name ty value) = of_expr value ∷ []

-- the trees right below a tree, in order
abbrev pub children : Syntax → List Syntax
children (of_pattern p) = map of_pattern (subpatterns p)
children (of_expr e) = expr_children e
children (of_let_def d) = let_def_children d
children (of_if_let i) = of_pattern i.pattern ∷ of_expr i.expr ∷ []
children (of_rule r) = of_pattern r.pattern ∷ (map of_if_let r.if_lets ++ of_expr r.expr ∷ [])

-- a let's definitions, and its body
abbrev pub let_defs : Syntax → List Syntax
let_defs (of_expr (e.«let» at defs body)) = map of_let_def (let_def_list defs)
let_defs _ = []

abbrev pub let_body : Syntax → Option Syntax
let_body (of_expr (e.«let» at defs body)) = Some (of_expr body)
let_body _ = None

-- a rule's pattern, its if-lets, and its right-hand side
abbrev pub rule_pattern : Syntax → Option Syntax
rule_pattern (of_rule r) = Some (of_pattern r.pattern)
rule_pattern _ = None

abbrev pub rule_if_lets : Syntax → List Syntax
rule_if_lets (of_rule r) = map of_if_let r.if_lets
rule_if_lets _ = []

abbrev pub rule_expr : Syntax → Option Syntax
rule_expr (of_rule r) = Some (of_expr r.expr)
rule_expr _ = None

-- the records, each with its number in the source list, are those of the tree
abbrev pub LaysOut : ℕ → List Source → Syntax → Type 0
LaysOut first xs t = enumerate_from first xs ≡ syntax_records t

-- the records are those of some tree
abbrev pub IsSyntax : ℕ → List Source → Type 0
IsSyntax first xs = (t : Syntax) × LaysOut first xs t
