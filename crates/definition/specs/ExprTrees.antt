-- Expressions as ISLE's abstract syntax has them, and the records that lay one out.
use Rattle.std.specs.Prelude.{ℤ, Bool, List, [], ◌∷◌, ◌++◌}
use Rattle.records.specs.declared.source.Expr.TheVariants as expr
use Rattle.records.specs.declared.source.Name.{Name}
use Rattle.records.specs.declared.source.Node.TheVariants as node
use Rattle.definition.specs.PatternTrees.{At, Numbered, rooted}

mutual
  pub data ExprTree : Type 0 where
    term : At → Name → ExprTrees → ExprTree
    var : At → Name → ExprTree
    const_bool : At → Bool → ExprTree
    const_int : At → ℤ → ExprTree
    const_prim : At → Name → ExprTree
    -- definitions, then the body
    «let» : At → LetDefTrees → ExprTree → ExprTree

  pub data ExprTrees : Type 0 where
    none : ExprTrees
    more : ExprTree → ExprTrees → ExprTrees

  -- the variable's name, its type's name, its value
  pub data LetDefTree : Type 0 where
    let_def : At → Name → Name → ExprTree → LetDefTree

  pub data LetDefTrees : Type 0 where
    no_defs : LetDefTrees
    more_defs : LetDefTree → LetDefTrees → LetDefTrees

abbrev mutual
  pub expr_records : ExprTree → List Numbered
  expr_records (term at name args) = rooted at (node.Expr (expr.Term name)) (exprs_records args)
  expr_records (var at name) = rooted at (node.Expr (expr.Var name)) []
  expr_records (const_bool at val) = rooted at (node.Expr (expr.ConstBool val)) []
  expr_records (const_int at val) = rooted at (node.Expr (expr.ConstInt val)) []
  expr_records (const_prim at name) = rooted at (node.Expr (expr.ConstPrim name)) []
  expr_records («let» at defs body) = rooted at (node.Expr expr.Let) (let_defs_records defs ++ expr_records body)

  pub exprs_records : ExprTrees → List Numbered
  exprs_records none = []
  exprs_records (more e es) = expr_records e ++ exprs_records es

  pub let_def_records : LetDefTree → List Numbered
  let_def_records (let_def at name ty value) = rooted at (node.LetDef name ty) (expr_records value)

  pub let_defs_records : LetDefTrees → List Numbered
  let_defs_records no_defs = []
  let_defs_records (more_defs d ds) = let_def_records d ++ let_defs_records ds

abbrev pub expr_list : ExprTrees → List ExprTree
expr_list none = []
expr_list (more e es) = e ∷ expr_list es

abbrev pub let_def_list : LetDefTrees → List LetDefTree
let_def_list no_defs = []
let_def_list (more_defs d ds) = d ∷ let_def_list ds
