-- The records of a tree determine it: they can be read back.
use Rattle.std.proofs.Common.{◌≡◌, ℕ, ◌+◌, ◌-◌, ◌<◌, ◌==◌, true, if◌then◌else◌, List, [], ◌∷◌, ◌++◌, map, length, get_or, flat_map, sym, refl, ap, ◌∙◌, arith, length-append, zero-add}
use Rattle.std.proofs.lemmas.Bool.{ne_eqb}
use Rattle.std.proofs.lemmas.List.{append-nil}
use Rattle.std.specs.List.{AllByRecursion}
use Rattle.records.specs.declared.source.Expr.{Expr}
use Rattle.records.specs.declared.source.Expr.TheVariants as expr
use Rattle.records.specs.declared.source.Node.{Node}
use Rattle.records.specs.declared.source.Node.TheVariants as node
use Rattle.records.specs.declared.source.Pattern.{Pattern}
use Rattle.records.specs.declared.source.Pattern.TheVariants as pattern
use Rattle.definition.specs.PatternTrees.{At, Numbered, node_record, rooted, PatternTree, PatternTrees, pattern_records, patterns_records, pattern_list}
use Rattle.definition.specs.PatternTrees as p
use Rattle.definition.specs.ExprTrees.{ExprTree, ExprTrees, LetDefTree, let_def, LetDefTrees, no_defs, more_defs, expr_records, exprs_records, let_def_records, let_defs_records, expr_list, let_def_list}
use Rattle.definition.specs.ExprTrees as e
use Rattle.definition.specs.RuleTrees.{IfLetTree, RuleTree, rule_records}
use Rattle.definition.proofs.Laid.{by_root}
use Rattle.definition.specs.Syntax.{Syntax, of_pattern, of_expr, of_let_def, of_if_let, of_rule, syntax_records, root_of, children}

-- What holds of a tree where it holds of those right below it holds of each tree.
module _ (P : Syntax → Type 0) (step : (t : Syntax) → AllByRecursion P (children t) → P t) where
  -- what holds of the trees and of one more holds of them all
  then_one : (ts : List Syntax) (t : Syntax) → AllByRecursion P ts → P t → AllByRecursion P (ts ++ t ∷ [])
  then_one [] t all one = (one, tt)
  then_one (u ∷ ts) t (first, all) one = (first, then_one ts t all one)

  mutual
    -- it holds of each pattern
    by_pattern : (p : PatternTree) → P (of_pattern p)
    by_pattern (p.bind_pattern at name q) = step (of_pattern (p.bind_pattern at name q)) (by_pattern q, tt)
    by_pattern (p.term at name args) = step (of_pattern (p.term at name args)) (by_patterns args)
    by_pattern (p.«and» at ps) = step (of_pattern (p.«and» at ps)) (by_patterns ps)
    by_pattern leaf = step (of_pattern leaf) tt

    -- it holds of each of the patterns
    by_patterns : (ps : PatternTrees) → AllByRecursion P (map of_pattern (pattern_list ps))
    by_patterns p.none = tt
    by_patterns (p.more p ps) = (by_pattern p, by_patterns ps)

  mutual
    -- it holds of each expression
    by_expr : (e : ExprTree) → P (of_expr e)
    by_expr (e.term at name args) = step (of_expr (e.term at name args)) (by_exprs args)
    by_expr (e.«let» at defs body) = step (of_expr (e.«let» at defs body)) (then_one (map of_let_def (let_def_list defs)) (of_expr body) (by_let_defs defs) (by_expr body))
    by_expr leaf = step (of_expr leaf) tt

    -- it holds of each of the expressions
    by_exprs : (es : ExprTrees) → AllByRecursion P (map of_expr (expr_list es))
    by_exprs e.none = tt
    by_exprs (e.more e es) = (by_expr e, by_exprs es)

    -- it holds of each definition in a let
    by_let_def : (d : LetDefTree) → P (of_let_def d)
    by_let_def (let_def at name ty value) = step (of_let_def (let_def at name ty value)) (by_expr value, tt)

    -- it holds of each of the definitions
    by_let_defs : (ds : LetDefTrees) → AllByRecursion P (map of_let_def (let_def_list ds))
    by_let_defs no_defs = tt
    by_let_defs (more_defs d ds) = (by_let_def d, by_let_defs ds)

  -- it holds of each of the if-lets
  by_if_lets : (is : List IfLetTree) → AllByRecursion P (map of_if_let is)
  by_if_lets [] = tt
  by_if_lets (i ∷ is) = (step (of_if_let i) (by_pattern i.pattern, (by_expr i.expr, tt)), by_if_lets is)

  -- it holds of each tree
  pub by_children : (t : Syntax) → P t
  by_children (of_pattern p) = by_pattern p
  by_children (of_expr e) = by_expr e
  by_children (of_let_def d) = by_let_def d
  by_children (of_if_let i) = step (of_if_let i) (by_pattern i.pattern, (by_expr i.expr, tt))
  by_children (of_rule r) = step (of_rule r) (by_pattern r.pattern, then_one (map of_if_let r.if_lets) (of_expr r.expr) (by_if_lets r.if_lets) (by_expr r.expr))

-- the patterns among the trees
abbrev patterns_in : List Syntax → PatternTrees
patterns_in [] = p.none
patterns_in (of_pattern q ∷ ts) = p.more q (patterns_in ts)
patterns_in (t ∷ ts) = patterns_in ts

-- the expressions among the trees
abbrev exprs_in : List Syntax → ExprTrees
exprs_in [] = e.none
exprs_in (of_expr x ∷ ts) = e.more x (exprs_in ts)
exprs_in (t ∷ ts) = exprs_in ts

-- the definitions of a let among the trees
abbrev let_defs_in : List Syntax → LetDefTrees
let_defs_in [] = no_defs
let_defs_in (of_let_def d ∷ ts) = more_defs d (let_defs_in ts)
let_defs_in (t ∷ ts) = let_defs_in ts

-- the if-lets among the trees
abbrev if_lets_in : List Syntax → List IfLetTree
if_lets_in [] = []
if_lets_in (of_if_let i ∷ ts) = i ∷ if_lets_in ts
if_lets_in (t ∷ ts) = if_lets_in ts

-- the first pattern, or any where there is none
abbrev first_pattern : At → PatternTrees → PatternTree
first_pattern at p.none = p.wildcard at
first_pattern at (p.more q qs) = q

-- the first expression, or any where there is none
abbrev first_expr : At → ExprTrees → ExprTree
first_expr at e.none = e.const_bool at true
first_expr at (e.more x xs) = x

-- the pattern that says that, over those trees
abbrev pattern_over : At → Pattern → List Syntax → PatternTree
pattern_over at (pattern.Var name) ts = p.var at name
pattern_over at (pattern.BindPattern name) ts = p.bind_pattern at name (first_pattern at (patterns_in ts))
pattern_over at (pattern.ConstBool val) ts = p.const_bool at val
pattern_over at (pattern.ConstInt val) ts = p.const_int at val
pattern_over at (pattern.ConstPrim name) ts = p.const_prim at name
pattern_over at (pattern.Term name) ts = p.term at name (patterns_in ts)
pattern_over at pattern.Wildcard ts = p.wildcard at
pattern_over at pattern.And ts = p.«and» at (patterns_in ts)
pattern_over at (pattern.MacroArg index) ts = p.macro_arg at index

-- the expression that says that, over those trees
abbrev expr_over : At → Expr → List Syntax → ExprTree
expr_over at (expr.Term name) ts = e.term at name (exprs_in ts)
expr_over at (expr.Var name) ts = e.var at name
expr_over at (expr.ConstBool val) ts = e.const_bool at val
expr_over at (expr.ConstInt val) ts = e.const_int at val
expr_over at (expr.ConstPrim name) ts = e.const_prim at name
expr_over at expr.Let ts = e.«let» at (let_defs_in ts) (first_expr at (exprs_in ts))

-- the tree with that root over those trees, or any where a root of that kind has no tree here
abbrev over : At → Node → List Syntax → Syntax
over at (node.Pattern q) ts = of_pattern (pattern_over at q ts)
over at (node.Expr x) ts = of_expr (expr_over at x ts)
over at (node.LetDef name ty) ts = of_let_def (let_def at name ty (first_expr at (exprs_in ts)))
over at node.IfLet ts = of_if_let (record { at = at; pattern = first_pattern at (patterns_in ts); expr = first_expr at (exprs_in ts) })
over at (node.Rule prio name) ts =
    of_rule (record { at = at; prio = prio; name = name; pattern = first_pattern at (patterns_in ts); if_lets = if_lets_in ts; expr = first_expr at (exprs_in ts) })
over at (node.Ident name) ts = of_pattern (p.wildcard at)
over at node.Converter ts = of_pattern (p.wildcard at)

-- all of the patterns are the patterns among them
same_patterns : (qs : PatternTrees) → patterns_in (map of_pattern (pattern_list qs)) ≡ qs
same_patterns p.none = refl
same_patterns (p.more q qs) = ap (p.more q) (same_patterns qs)

-- all of the expressions are the expressions among them
same_exprs : (xs : ExprTrees) → exprs_in (map of_expr (expr_list xs)) ≡ xs
same_exprs e.none = refl
same_exprs (e.more x xs) = ap (e.more x) (same_exprs xs)

-- among the trees right below a let are its definitions, and its body alone is an expression
same_let : (ds : LetDefTrees) (x : ExprTree) → let ts = map of_let_def (let_def_list ds) ++ of_expr x ∷ [] in (let_defs_in ts ≡ ds) × (exprs_in ts ≡ e.more x e.none)
same_let no_defs x = (refl, refl)
same_let (more_defs d ds) x = let (defs, body) = same_let ds x in (ap (more_defs d) defs, body)

-- among the trees below a rule behind its pattern are its if-lets, and one expression
same_rule : (is : List IfLetTree) (x : ExprTree) → let ts = map of_if_let is ++ of_expr x ∷ [] in (if_lets_in ts ≡ is) × (exprs_in ts ≡ e.more x e.none)
same_rule [] x = (refl, refl)
same_rule (i ∷ is) x = let (if_lets, body) = same_rule is x in (ap (λ js. i ∷ js) if_lets, body)

-- a tree is the one with its root over the trees right below it
over_children : (t : Syntax) → over (root_of t).0 (root_of t).1 (children t) ≡ t
over_children (of_pattern (p.term at name args)) = ap (λ qs. of_pattern (p.term at name qs)) (same_patterns args)
over_children (of_pattern (p.«and» at qs)) = ap (λ qs. of_pattern (p.«and» at qs)) (same_patterns qs)
over_children (of_pattern other) = refl
over_children (of_expr (e.term at name args)) = ap (λ xs. of_expr (e.term at name xs)) (same_exprs args)
over_children (of_expr (e.«let» at defs body)) = let (same, last) = same_let defs body in λ j. of_expr (e.«let» at (same j) (first_expr at (last j)))
over_children (of_expr leaf) = refl
over_children (of_let_def (let_def at name ty value)) = refl
over_children (of_if_let i) = refl
over_children (of_rule r) =
    let (same, last) = same_rule r.if_lets r.expr in
    λ j. of_rule (record { at = r.at; prio = r.prio; name = r.name; pattern = r.pattern; if_lets = same j; expr = first_expr r.at (last j) })

-- the trees one after another on a stack, the last on top
abbrev stacked : List Syntax → List Syntax → List Syntax
stacked [] st = st
stacked (t ∷ ts) st = stacked ts (t ∷ st)

-- trees with n records in all, off the stack, in front of others; then what is left there
abbrev off : ℕ → List Syntax → List Syntax → List Syntax × List Syntax
off n [] ts = (ts, [])
off n (t ∷ st) ts = if n == 0 then (ts, t ∷ st) else off (n - length (syntax_records t)) st (t ∷ ts)

-- the next record is a root over trees from the stack
abbrev push : List Syntax → Numbered → List Syntax
push st x = let (ts, rest) = off (x.1.size - 1) st [] in over (record { number = x.0; pos = x.1.pos }) x.1.node ts ∷ rest

-- the stack when all the records are read
abbrev read : List Syntax → List Numbered → List Syntax
read st [] = st
read st (x ∷ xs) = read (push st x) xs

-- records read after others go on from the stack that those leave
read-append : (st : List Syntax) (xs ys : List Numbered) → read st (xs ++ ys) ≡ read (read st xs) ys
read-append st [] ys = refl
read-append st (x ∷ xs) ys = read-append (push st x) xs ys

-- each tree has a record
some_records : (t : Syntax) → 0 < length (syntax_records t)
some_records t = omega (arith, ap length (by_root t), length-append (flat_map syntax_records (children t)) (node_record (root_of t).0 (root_of t).1 (length (flat_map syntax_records (children t))) ∷ []))

-- no tree comes off for no record
off_none : (st ts : List Syntax) → off 0 st ts ≡ (ts, st)
off_none [] ts = refl
off_none (t ∷ st) ts = refl

-- the tree on top comes off by its number of records
off_one : (n : ℕ) (t : Syntax) (st ts : List Syntax) → off (length (syntax_records t) + n) (t ∷ st) ts ≡ off n st (t ∷ ts)
off_one n t st ts =
    let back : length (syntax_records t) + n - length (syntax_records t) ≡ n = omega arith in
    rw (ne_eqb (length (syntax_records t) + n) 0 (omega (arith, some_records t)), back) refl

-- the trees that were put on the stack come off by their number of records
off_stacked : (ts : List Syntax) (n : ℕ) (st us : List Syntax) → off (length (flat_map syntax_records ts) + n) (stacked ts st) us ≡ off n st (ts ++ us)
off_stacked [] n st us = ap (λ m. off m st us) (zero-add n)
off_stacked (t ∷ ts) n st us =
    let long : length (flat_map syntax_records (t ∷ ts)) + n ≡ length (flat_map syntax_records ts) + (length (syntax_records t) + n) = omega (arith, length-append (syntax_records t) (flat_map syntax_records ts)) in
    rw long (off_stacked ts (length (syntax_records t) + n) (t ∷ st) us) ∙ off_one n t st (ts ++ us)

-- and then all of them come off for a root over them, which states one record more
off_children : (ts st : List Syntax) → off (length (flat_map syntax_records ts) + 1 - 1) (stacked ts st) [] ≡ (ts, st)
off_children ts st =
    let count : length (flat_map syntax_records ts) + 1 - 1 ≡ length (flat_map syntax_records ts) + 0 = omega arith in
    rw count (off_stacked ts 0 st [] ∙ off_none st (ts ++ []) ∙ ap (λ us. (us, st)) (append-nil ts))

-- the root of a tree, read behind the trees right below it, puts the tree on the stack
push_root : (t : Syntax) (st : List Syntax) → push (stacked (children t) st) (node_record (root_of t).0 (root_of t).1 (length (flat_map syntax_records (children t)))) ≡ t ∷ st
push_root t st = ap (λ p. over (root_of t).0 (root_of t).1 p.0 ∷ p.1) (off_children (children t) st) ∙ ap (λ u. u ∷ st) (over_children t)

-- the tree's records, read, put the tree on the stack
abbrev Reads : Syntax → Type 0
Reads t = (st : List Syntax) → read st (syntax_records t) ≡ t ∷ st

-- the records of several trees, read, put them all on the stack
read_trees : (ts : List Syntax) → AllByRecursion Reads ts → (st : List Syntax) → read st (flat_map syntax_records ts) ≡ stacked ts st
read_trees [] all st = refl
read_trees (t ∷ ts) (first, all) st = read-append st (syntax_records t) (flat_map syntax_records ts) ∙ ap (λ s. read s (flat_map syntax_records ts)) (first st) ∙ read_trees ts all (t ∷ st)

-- a tree's records, read, put it on the stack where those of the trees right below it do so
read_root : (t : Syntax) → AllByRecursion Reads (children t) → Reads t
read_root t all st =
    let ns = flat_map syntax_records (children t) in
    let root = node_record (root_of t).0 (root_of t).1 (length ns) in
    ap (read st) (by_root t) ∙ read-append st ns (root ∷ []) ∙ ap (λ s. push s root) (read_trees (children t) all st) ∙ push_root t st

-- the records of each tree, read, put it on the stack
reads : (t : Syntax) → Reads t
reads = by_children Reads read_root

-- the records of a tree are those of no other
pub one_tree : (t u : Syntax) → syntax_records t ≡ syntax_records u → t ≡ u
one_tree t u e = ap (λ ts. get_or ts 0 t) (sym (reads t []) ∙ ap (read []) e ∙ reads u [])

-- the records of a rule are those of no other
pub one_rule : (r s : RuleTree) → rule_records r ≡ rule_records s → r ≡ s
one_rule r s e = let same = one_tree (of_rule r) (of_rule s) e in cc
