-- What a piece of abstract syntax is laid out by: its root, behind the pieces right below it. And how records are numbered.
use Rattle.std.proofs.Common.{◌≡◌, ℕ, ◌+◌, List, [], ◌∷◌, ◌++◌, map, length, sym, refl, ap, ◌∙◌, add-zero, arith}
use Rattle.std.proofs.lemmas.List.{append-nil, append_assoc}
use Rattle.std.specs.List.{enumerate_from, flat_map}
use Rattle.records.specs.declared.source.Expr.TheVariants as expr
use Rattle.records.specs.declared.source.Node.TheVariants as node
use Rattle.records.specs.declared.source.Pattern.TheVariants as pattern
use Rattle.definition.specs.PatternTrees.{rooted, PatternTrees, pattern_records, patterns_records, pattern_list}
use Rattle.definition.specs.PatternTrees as p
use Rattle.definition.specs.ExprTrees.{ExprTree, ExprTrees, let_def, LetDefTrees, no_defs, more_defs, expr_records, exprs_records, let_def_records, let_defs_records, expr_list, let_def_list}
use Rattle.definition.specs.ExprTrees as e
use Rattle.definition.specs.RuleTrees.{IfLetTree, if_let_records}
use Rattle.definition.specs.Syntax.{Syntax, of_pattern, of_expr, of_let_def, of_if_let, of_rule, syntax_records, root_of, children}

-- the records of patterns are those of the patterns as trees
patterns_flat : (qs : PatternTrees) → patterns_records qs ≡ flat_map syntax_records (map of_pattern (pattern_list qs))
patterns_flat p.none = refl
patterns_flat (p.more q qs) = ap (λ xs. pattern_records q ++ xs) (patterns_flat qs)

-- the records of expressions are those of the expressions as trees
exprs_flat : (xs : ExprTrees) → exprs_records xs ≡ flat_map syntax_records (map of_expr (expr_list xs))
exprs_flat e.none = refl
exprs_flat (e.more x xs) = ap (λ ys. expr_records x ++ ys) (exprs_flat xs)

-- the records below a let are those of its definitions and its body as trees
let_defs_flat : (ds : LetDefTrees) (x : ExprTree) → let_defs_records ds ++ expr_records x ≡ flat_map syntax_records (map of_let_def (let_def_list ds) ++ of_expr x ∷ [])
let_defs_flat no_defs x = sym (append-nil (expr_records x))
let_defs_flat (more_defs d ds) x = append_assoc (let_def_records d) (let_defs_records ds) (expr_records x) ∙ ap (λ ys. let_def_records d ++ ys) (let_defs_flat ds x)

-- the records behind a rule's pattern are those of its if-lets and its expression as trees
if_lets_flat : (is : List IfLetTree) (x : ExprTree) → flat_map if_let_records is ++ expr_records x ≡ flat_map syntax_records (map of_if_let is ++ of_expr x ∷ [])
if_lets_flat [] x = sym (append-nil (expr_records x))
if_lets_flat (i ∷ is) x = append_assoc (if_let_records i) (flat_map if_let_records is) (expr_records x) ∙ ap (λ ys. if_let_records i ++ ys) (if_lets_flat is x)

-- a tree's records are those of the trees right below it, then its root's
pub by_root : (t : Syntax) → syntax_records t ≡ rooted (root_of t).0 (root_of t).1 (flat_map syntax_records (children t))
by_root (of_pattern (p.bind_pattern at name q)) = ap (rooted at (node.Pattern (pattern.BindPattern name))) (sym (append-nil (pattern_records q)))
by_root (of_pattern (p.term at name args)) = ap (rooted at (node.Pattern (pattern.Term name))) (patterns_flat args)
by_root (of_pattern (p.«and» at qs)) = ap (rooted at (node.Pattern pattern.And)) (patterns_flat qs)
by_root (of_pattern leaf) = refl
by_root (of_expr (e.term at name args)) = ap (rooted at (node.Expr (expr.Term name))) (exprs_flat args)
by_root (of_expr (e.«let» at defs body)) = ap (rooted at (node.Expr expr.Let)) (let_defs_flat defs body)
by_root (of_expr leaf) = refl
by_root (of_let_def (let_def at name ty value)) = ap (rooted at (node.LetDef name ty)) (sym (append-nil (expr_records value)))
by_root (of_if_let i) = ap (λ xs. rooted i.at node.IfLet (pattern_records i.pattern ++ xs)) (sym (append-nil (expr_records i.expr)))
by_root (of_rule r) = ap (λ xs. rooted r.at (node.Rule r.prio r.name) (pattern_records r.pattern ++ xs)) (if_lets_flat r.if_lets r.expr)

-- the numbers go on from one list to the next
pub enumerate-append : {X : Type 0} (n : ℕ) (xs ys : List X) → enumerate_from n (xs ++ ys) ≡ enumerate_from n xs ++ enumerate_from (n + length xs) ys
enumerate-append n [] ys = ap (λ k. enumerate_from k ys) (sym (add-zero n))
enumerate-append n (x ∷ xs) ys =
    let same : (n + 1) + length xs ≡ n + length (x ∷ xs) = omega arith in
    ap (λ zs. (n, x) ∷ zs) (enumerate-append (n + 1) xs ys ∙ ap (λ k. enumerate_from (n + 1) xs ++ enumerate_from k ys) same)
