-- A lawful tree of the source list reads as a tree of ISLE's abstract syntax.
use Rattle.std.proofs.Common.{◌≡◌, ℕ, ◌+◌, ◌<◌, Bool, true, false, if◌then◌else◌, nat_le, nat_lt, ◌==◌, List, [], ◌∷◌, ◌++◌, length, Option, ℤ, All, flat_map, append_assoc, append-nil, add-one, sym, refl, ap, ◌∙◌, arith}
use Rattle.std.specs.List.{enumerate_from, AllByRecursion}
use Rattle.std.proofs.lemmas.Bool.{false≢true, eqb-true, ne_eqb, ltb-true, and_parts}
use Rattle.std.proofs.lemmas.List.Elements.{All-nil, All-cons}
use Rattle.std.proofs.lemmas.List.FromFn.{length-enumerate_from}
use Rattle.records.specs.declared.source.Expr.{Expr}
use Rattle.records.specs.declared.source.Expr.TheVariants as expr
use Rattle.records.specs.declared.source.Name.{Name}
use Rattle.records.specs.declared.source.Node.{Node}
use Rattle.records.specs.declared.source.Node.TheVariants as node
use Rattle.records.specs.declared.source.Pattern.{Pattern}
use Rattle.records.specs.declared.source.Pattern.TheVariants as pattern
use Rattle.records.specs.declared.source.Source.{Source}
use Rattle.records.specs.Patterns.{pattern_counts}
use Rattle.tree.specs.Layout.{Forest, none, next, flat, empty, Below, Lawful}
use Rattle.definition.specs.Grammar.{kind_of, expr_counts, counts, expr_child, child_kind, place, same_kind, source_rules}
use Rattle.definition.specs.Lawful.{IsTreeOf}
use Rattle.definition.specs.PatternTrees.{At, rooted, PatternTree, PatternTrees, pattern_records, patterns_records, MacrosBelow, AllMacrosBelow}
use Rattle.definition.specs.PatternTrees as patterns
use Rattle.definition.specs.ExprTrees.{ExprTree, ExprTrees, LetDefTree, LetDefTrees, no_defs, more_defs, let_def, expr_records, exprs_records, let_def_records, let_defs_records}
use Rattle.definition.specs.ExprTrees as exprs
use Rattle.definition.specs.RuleTrees.{IfLetTree, RuleTree, if_let_records, rule_records, HasNoMacros}
use Rattle.definition.specs.Syntax.{Syntax, of_pattern, of_expr, of_let_def, of_if_let, of_rule, syntax_records, LaysOut}
use Rattle.definition.proofs.Laid.{enumerate-append}
use Rattle.definition.specs.declared.grammar.Kind.{Kind}
use Rattle.definition.specs.declared.grammar.Kind.TheVariants as kind

-- the kind of a tree's root
abbrev pub tree_kind : Syntax → Kind
tree_kind (of_pattern p) = kind.Pattern
tree_kind (of_expr e) = kind.Expr
tree_kind (of_let_def d) = kind.LetDef
tree_kind (of_if_let i) = kind.IfLet
tree_kind (of_rule r) = kind.Rule

-- each macro argument of the tree is one of the first `arity`
abbrev pub MacrosIn : ℕ → Syntax → Type 0
MacrosIn arity (of_pattern p) = MacrosBelow arity p
MacrosIn arity (of_expr e) = Unit {0}
MacrosIn arity (of_let_def d) = Unit {0}
MacrosIn arity (of_if_let i) = MacrosBelow arity i.pattern
MacrosIn arity (of_rule r) = MacrosBelow arity r.pattern × All (λ i. MacrosBelow arity i.pattern) r.if_lets

-- each tree is of a kind that may stand there below the node
abbrev Fits : Node → Bool → List Syntax → Type 0
Fits m first [] = Unit {0}
Fits m first (t ∷ ts) = (same_kind (tree_kind t) (child_kind m (length ts) first) ≡ true) × Fits m false ts

-- a tree of kind pattern is a pattern
as_pattern : (arity : ℕ) (t : Syntax) → same_kind (tree_kind t) kind.Pattern ≡ true → MacrosIn arity t → (p : PatternTree) × (syntax_records t ≡ pattern_records p) × MacrosBelow arity p
as_pattern arity (of_pattern p) k m = (p, refl, m)
as_pattern arity t k m = absurd (false≢true k)

-- a tree of kind expression is an expression
as_expr : (t : Syntax) → same_kind (tree_kind t) kind.Expr ≡ true → (e : ExprTree) × (syntax_records t ≡ expr_records e)
as_expr (of_expr e) k = (e, refl)
as_expr t k = absurd (false≢true k)

-- a tree of kind let definition is a let definition
as_let_def : (t : Syntax) → same_kind (tree_kind t) kind.LetDef ≡ true → (d : LetDefTree) × (syntax_records t ≡ let_def_records d)
as_let_def (of_let_def d) k = (d, refl)
as_let_def t k = absurd (false≢true k)

-- a tree of kind if-let is an if-let
as_if_let : (arity : ℕ) (t : Syntax) → same_kind (tree_kind t) kind.IfLet ≡ true → MacrosIn arity t → (i : IfLetTree) × (syntax_records t ≡ if_let_records i) × MacrosBelow arity i.pattern
as_if_let arity (of_if_let i) k m = (i, refl, m)
as_if_let arity t k m = absurd (false≢true k)

-- a tree of kind rule is a rule
as_rule : (arity : ℕ) (t : Syntax) → same_kind (tree_kind t) kind.Rule ≡ true → MacrosIn arity t → (r : RuleTree) × (syntax_records t ≡ rule_records r) × MacrosBelow arity r.pattern × All (λ i. MacrosBelow arity i.pattern) r.if_lets
as_rule arity (of_rule r) k (m, ms) = (r, refl, m, ms)
as_rule arity t k m = absurd (false≢true k)

-- what stands below a pattern reads as patterns
patterns_from : (arity : ℕ) (p : Pattern) (first : Bool) (ts : List Syntax) → Fits (node.Pattern p) first ts → AllByRecursion (MacrosIn arity) ts
    → (qs : PatternTrees) × (flat_map syntax_records ts ≡ patterns_records qs) × AllMacrosBelow arity qs
patterns_from arity p first [] fits ms = (patterns.none, refl, tt)
patterns_from arity p first (t ∷ ts) (fit, fits) (m, ms) =
    let (q, e, b) = as_pattern arity t fit m in
    let (qs, es, bs) = patterns_from arity p false ts fits ms in
    (patterns.more q qs, λ i. e i ++ es i, (b, bs))

-- what stands below a term reads as expressions
exprs_from : (sym : Name) (first : Bool) (ts : List Syntax) → Fits (node.Expr (expr.Term sym)) first ts → (es : ExprTrees) × (flat_map syntax_records ts ≡ exprs_records es)
exprs_from sym first [] fits = (exprs.none, refl)
exprs_from sym first (t ∷ ts) (fit, fits) =
    let (x, e) = as_expr t fit in
    let (xs, es) = exprs_from sym false ts fits in
    (exprs.more x xs, λ i. e i ++ es i)

-- where another tree stands behind, it is not the last
not_last : (t : Syntax) (ts : List Syntax) → (length (t ∷ ts) == 0) ≡ false
not_last t ts = ne_eqb (length (t ∷ ts)) 0 (λ e. omega arith)

-- what stands below a let reads as definitions and a body
let_from : (first : Bool) (t : Syntax) (ts : List Syntax) → Fits (node.Expr expr.Let) first (t ∷ ts)
    → (ds : LetDefTrees) × (body : ExprTree) × (flat_map syntax_records (t ∷ ts) ≡ let_defs_records ds ++ expr_records body)
let_from first t [] (fit, fits) =
    let (body, e) = as_expr t fit in
    (no_defs, body, append-nil (syntax_records t) ∙ e)
let_from first t (u ∷ us) (fit, fits) =
    let (d, e) = as_let_def t (rw (not_last u us) at fit) in
    let (ds, body, es) = let_from false u us fits in
    (more_defs d ds, body, (λ i. e i ++ es i) ∙ sym (append_assoc (let_def_records d) (let_defs_records ds) (expr_records body)))

-- what stands below a rule behind its pattern reads as if-lets and an expression
if_lets_from : (arity : ℕ) (prio : Option ℤ) (name : Option Name) (t : Syntax) (ts : List Syntax) → Fits (node.Rule prio name) false (t ∷ ts) → AllByRecursion (MacrosIn arity) (t ∷ ts)
    → (is : List IfLetTree) × (body : ExprTree) × (flat_map syntax_records (t ∷ ts) ≡ flat_map if_let_records is ++ expr_records body) × All (λ i. MacrosBelow arity i.pattern) is
if_lets_from arity prio name t [] (fit, fits) ms =
    let (body, e) = as_expr t fit in
    ([], body, append-nil (syntax_records t) ∙ e, All-nil (λ (i : IfLetTree). MacrosBelow arity i.pattern))
if_lets_from arity prio name t (u ∷ us) (fit, fits) (m, ms) =
    let (x, e, b) = as_if_let arity t (rw (not_last u us) at fit) m in
    let (xs, body, es, bs) = if_lets_from arity prio name u us fits ms in
    (x ∷ xs, body, (λ i. e i ++ es i) ∙ sym (append_assoc (if_let_records x) (flat_map if_let_records xs) (expr_records body)), All-cons (λ (i : IfLetTree). MacrosBelow arity i.pattern) x xs b bs)

-- no trees have no records
no_records : (ts : List Syntax) → (length ts == 0) ≡ true → flat_map syntax_records ts ≡ []
no_records [] n = refl
no_records (t ∷ ts) n = absurd (omega (arith, eqb-true (length (t ∷ ts)) 0 n))

-- a node over trees, as a tree of the node's kind
abbrev Rooted : ℕ → At → Node → List Syntax → Type 0
Rooted arity at m ts = (t : Syntax) × (tree_kind t ≡ kind_of m) × (rooted at m (flat_map syntax_records ts) ≡ syntax_records t) × MacrosIn arity t

-- a binding stands over one pattern
bind_node : (arity : ℕ) (at : At) (name : Name) (ts : List Syntax) → Fits (node.Pattern (pattern.BindPattern name)) true ts → (length ts == 1) ≡ true → AllByRecursion (MacrosIn arity) ts
    → Rooted arity at (node.Pattern (pattern.BindPattern name)) ts
bind_node arity at name [] fits n ms = absurd (false≢true n)
bind_node arity at name (t ∷ u ∷ us) fits n ms = absurd (omega (arith, eqb-true (length (t ∷ u ∷ us)) 1 n))
bind_node arity at name (t ∷ []) (fit, fits) n (m, ms) =
    let (p, e, b) = as_pattern arity t fit m in
    (of_pattern (patterns.bind_pattern at name p), refl, rw (append-nil (syntax_records t), e), b)

-- a pattern over trees that may stand there is a pattern tree
pattern_node : (arity : ℕ) (at : At) (p : Pattern) (ts : List Syntax) → Fits (node.Pattern p) true ts → pattern_counts arity p (length ts) ≡ true → AllByRecursion (MacrosIn arity) ts
    → Rooted arity at (node.Pattern p) ts
pattern_node arity at (pattern.Var name) ts fits n ms = (of_pattern (patterns.var at name), refl, rw (no_records ts n), tt)
pattern_node arity at (pattern.BindPattern name) ts fits n ms = bind_node arity at name ts fits n ms
pattern_node arity at (pattern.ConstBool val) ts fits n ms = (of_pattern (patterns.const_bool at val), refl, rw (no_records ts n), tt)
pattern_node arity at (pattern.ConstInt val) ts fits n ms = (of_pattern (patterns.const_int at val), refl, rw (no_records ts n), tt)
pattern_node arity at (pattern.ConstPrim val) ts fits n ms = (of_pattern (patterns.const_prim at val), refl, rw (no_records ts n), tt)
pattern_node arity at (pattern.Term sym) ts fits n ms =
    let (ps, e, bs) = patterns_from arity (pattern.Term sym) true ts fits ms in
    (of_pattern (patterns.term at sym ps), refl, rw e, bs)
pattern_node arity at pattern.Wildcard ts fits n ms = (of_pattern (patterns.wildcard at), refl, rw (no_records ts n), tt)
pattern_node arity at pattern.And ts fits n ms =
    let (ps, e, bs) = patterns_from arity pattern.And true ts fits ms in
    (of_pattern (patterns.«and» at ps), refl, rw e, bs)
pattern_node arity at (pattern.MacroArg index) ts fits n ms =
    let (below, bare) = and_parts (nat_lt index arity) (length ts == 0) n in
    (of_pattern (patterns.macro_arg at index), refl, rw (no_records ts bare), ltb-true index arity below)

-- a let stands over one tree or more
let_node : (arity : ℕ) (at : At) (ts : List Syntax) → Fits (node.Expr expr.Let) true ts → nat_le 1 (length ts) ≡ true → Rooted arity at (node.Expr expr.Let) ts
let_node arity at [] fits n = absurd (false≢true n)
let_node arity at (t ∷ ts) fits n =
    let (ds, body, e) = let_from true t ts fits in
    (of_expr (exprs.«let» at ds body), refl, rw e, tt)

-- an expression over trees that may stand there is an expression tree
expr_node : (arity : ℕ) (at : At) (x : Expr) (ts : List Syntax) → Fits (node.Expr x) true ts → expr_counts x (length ts) ≡ true → Rooted arity at (node.Expr x) ts
expr_node arity at (expr.Term sym) ts fits n =
    let (xs, e) = exprs_from sym true ts fits in
    (of_expr (exprs.term at sym xs), refl, rw e, tt)
expr_node arity at (expr.Var name) ts fits n = (of_expr (exprs.var at name), refl, rw (no_records ts n), tt)
expr_node arity at (expr.ConstBool val) ts fits n = (of_expr (exprs.const_bool at val), refl, rw (no_records ts n), tt)
expr_node arity at (expr.ConstInt val) ts fits n = (of_expr (exprs.const_int at val), refl, rw (no_records ts n), tt)
expr_node arity at (expr.ConstPrim val) ts fits n = (of_expr (exprs.const_prim at val), refl, rw (no_records ts n), tt)
expr_node arity at expr.Let ts fits n = let_node arity at ts fits n

-- a let definition stands over its value
let_def_node : (arity : ℕ) (at : At) (var ty : Name) (ts : List Syntax) → Fits (node.LetDef var ty) true ts → (length ts == 1) ≡ true → Rooted arity at (node.LetDef var ty) ts
let_def_node arity at var ty [] fits n = absurd (false≢true n)
let_def_node arity at var ty (t ∷ u ∷ us) fits n = absurd (omega (arith, eqb-true (length (t ∷ u ∷ us)) 1 n))
let_def_node arity at var ty (t ∷ []) (fit, fits) n =
    let (x, e) = as_expr t fit in
    (of_let_def (let_def at var ty x), refl, rw (append-nil (syntax_records t), e), tt)

-- an if-let stands over a pattern and an expression
if_let_node : (arity : ℕ) (at : At) (ts : List Syntax) → Fits node.IfLet true ts → (length ts == 2) ≡ true → AllByRecursion (MacrosIn arity) ts → Rooted arity at node.IfLet ts
if_let_node arity at [] fits n ms = absurd (false≢true n)
if_let_node arity at (t ∷ []) fits n ms = absurd (false≢true n)
if_let_node arity at (t ∷ u ∷ v ∷ vs) fits n ms = absurd (omega (arith, eqb-true (length (t ∷ u ∷ v ∷ vs)) 2 n))
if_let_node arity at (t ∷ u ∷ []) (ft, (fu, fits)) n (m, ms) =
    let (p, e, b) = as_pattern arity t ft m in
    let (x, ex) = as_expr u fu in
    (of_if_let (record { at = at; pattern = p; expr = x }), refl, rw (append-nil (syntax_records u), e, ex), b)

-- a rule stands over a pattern, if-lets and an expression
rule_node : (arity : ℕ) (at : At) (prio : Option ℤ) (name : Option Name) (ts : List Syntax) → Fits (node.Rule prio name) true ts → nat_le 2 (length ts) ≡ true → AllByRecursion (MacrosIn arity) ts
    → Rooted arity at (node.Rule prio name) ts
rule_node arity at prio name [] fits n ms = absurd (false≢true n)
rule_node arity at prio name (t ∷ []) fits n ms = absurd (false≢true n)
rule_node arity at prio name (t ∷ u ∷ us) (fit, fits) n (m, ms) =
    let (p, e, b) = as_pattern arity t (rw (not_last u us) at fit) m in
    let (is, body, es, bs) = if_lets_from arity prio name u us fits ms in
    (of_rule (record { at = at; prio = prio; name = name; pattern = p; if_lets = is; expr = body }), refl, ap (rooted at (node.Rule prio name)) (λ i. e i ++ es i), (b, bs))

-- a kind of ISLE's rules, and neither a converter nor a name in one
abbrev pub Plain : Kind → Type 0
Plain k = place k < 5

-- a node over trees that may stand there is a tree
node_tree : (arity : ℕ) (at : At) (m : Node) (ts : List Syntax) → Plain (kind_of m) → Fits m true ts → counts arity m (length ts) ≡ true → AllByRecursion (MacrosIn arity) ts → Rooted arity at m ts
node_tree arity at (node.Pattern p) ts plain fits n ms = pattern_node arity at p ts fits n ms
node_tree arity at (node.Expr x) ts plain fits n ms = expr_node arity at x ts fits n
node_tree arity at (node.LetDef var ty) ts plain fits n ms = let_def_node arity at var ty ts fits n
node_tree arity at node.IfLet ts plain fits n ms = if_let_node arity at ts fits n ms
node_tree arity at (node.Rule prio name) ts plain fits n ms = rule_node arity at prio name ts fits n ms
node_tree arity at (node.Ident name) ts plain fits n ms = absurd (omega arith)
node_tree arity at node.Converter ts plain fits n ms = absurd (omega arith)

-- all roots of the forest are of such kinds
abbrev AllPlain : Forest Source → Type 0
AllPlain none = Unit {0}
AllPlain (next f r g) = AllPlain f × Plain (kind_of r.node)

-- of two such kinds either is one
plain_choice : (b : Bool) (k l : Kind) → Plain k → Plain l → Plain (if b then k else l)
plain_choice true k l pk pl = pk
plain_choice false k l pk pl = pl

-- below an expression such a kind has to stand
plain_child_of_expr : (x : Expr) (after : ℕ) → Plain (expr_child x after)
plain_child_of_expr (expr.Term sym) after = omega arith
plain_child_of_expr (expr.Var name) after = omega arith
plain_child_of_expr (expr.ConstBool val) after = omega arith
plain_child_of_expr (expr.ConstInt val) after = omega arith
plain_child_of_expr (expr.ConstPrim val) after = omega arith
plain_child_of_expr expr.Let after = plain_choice (after == 0) kind.Expr kind.LetDef (omega arith) (omega arith)

-- below a node of such a kind such a kind has to stand
plain_child : (m : Node) (after : ℕ) (first : Bool) → Plain (kind_of m) → Plain (child_kind m after first)
plain_child (node.Pattern p) after first plain = omega arith
plain_child (node.Expr x) after first plain = plain_child_of_expr x after
plain_child (node.LetDef var ty) after first plain = omega arith
plain_child node.IfLet after first plain = plain_choice (after == 0) kind.Expr kind.Pattern (omega arith) (omega arith)
plain_child (node.Rule prio name) after first plain =
    plain_choice (after == 0) kind.Expr (if first then kind.Pattern else kind.IfLet) (omega arith) (plain_choice first kind.Pattern kind.IfLet (omega arith) (omega arith))
plain_child (node.Ident name) after first plain = absurd (omega arith)
plain_child node.Converter after first plain = absurd (omega arith)

-- so all roots below such a root are of such kinds
plain_below : (arity : ℕ) (r : Source) (after : ℕ) (f : Forest Source) → Plain (kind_of r.node) → Below (source_rules arity) r after f → AllPlain f
plain_below arity r after none plain below = tt
plain_below arity r after (next f c g) plain (takes, below) = (
  plain_below arity r (after + 1) f plain below,
  omega (arith, plain_child r.node after (empty f) plain, eqb-true (place (kind_of c.node)) (place (child_kind r.node after (empty f))) takes),
)

-- the tree with the root r over the trees of g, from record n on
abbrev pub Tree : ℕ → ℕ → Source → Forest Source → Type 0
Tree arity n r g = (t : Syntax) × (tree_kind t ≡ kind_of r.node) × LaysOut n (flat g ++ r ∷ []) t × MacrosIn arity t

-- the trees of f from record n on, with more trees behind them
abbrev Trees : ℕ → ℕ → Forest Source → List Syntax → Type 0
Trees arity n f us = (ts : List Syntax)
    × (enumerate_from n (flat f) ++ flat_map syntax_records us ≡ flat_map syntax_records ts)
    × AllByRecursion (MacrosIn arity) ts
    × ((r : Source) → Below (source_rules arity) r (length us) f → Fits r.node (empty f) us → Fits r.node true ts × (counts arity r.node (length ts) ≡ true))

-- a root over trees is a tree
root_tree : (arity n : ℕ) (r : Source) (g : Forest Source) → r.size ≡ length (flat g) + 1 → Plain (kind_of r.node) → Below (source_rules arity) r 0 g → Trees arity n g [] → Tree arity n r g
root_tree arity n r g size plain below (ts, e, ms, may) =
    let (fits, count) = may r below tt in
    let laid : enumerate_from n (flat g) ≡ flat_map syntax_records ts = sym (append-nil (enumerate_from n (flat g))) ∙ e in
    let full : r.size ≡ length (flat_map syntax_records ts) + 1 = omega (arith, size, ap length laid, length-enumerate_from n (flat g)) in
    let (t, k, made, m) = node_tree arity (record { number = n + length (flat g); pos = r.pos }) r.node ts plain fits count ms in
    (t, k, enumerate-append n (flat g) (r ∷ []) ∙ (λ i. laid i ++ (n + length (flat g), record { node = r.node; size = full i; pos = r.pos }) ∷ []) ∙ made, m)

-- trees in front of a tree
next_tree : (arity n : ℕ) (f : Forest Source) (r : Source) (g : Forest Source) (us : List Syntax) (t : Tree arity (n + length (flat f)) r g) → Trees arity n f (t.0 ∷ us) → Trees arity n (next f r g) us
next_tree arity n f r g us (t, k, laid, m) (ts, e, ms, may) = (
  ts,
  ap (λ xs. xs ++ flat_map syntax_records us) (enumerate-append n (flat f) (flat g ++ r ∷ [])) ∙ append_assoc (enumerate_from n (flat f)) _ _ ∙ ap (λ xs. enumerate_from n (flat f) ++ (xs ++ flat_map syntax_records us)) laid ∙ e,
  ms,
  λ s (takes, below) fits. may s (rw (add-one (length us)) at below) (rw k takes, fits),
)

-- a lawful forest of such trees reads as trees, with the given ones behind them
trees_of : (arity n : ℕ) (f : Forest Source) (us : List Syntax) → Lawful (source_rules arity) f → AllPlain f → AllByRecursion (MacrosIn arity) us → Trees arity n f us
trees_of arity n none us lawful plain ms = (us, refl, ms, λ r below fits. (fits, below))
trees_of arity n (next f r g) us (lf, lg, size, below) (pf, pr) ms =
    let start = n + length (flat f) in
    let t = root_tree arity start r g size pr below (trees_of arity start g [] lg (plain_below arity r 0 g pr below) tt) in
    next_tree arity n f r g us t (trees_of arity n f (t.0 ∷ us) lf pf (t.3, ms))

-- a lawful tree of records reads as a tree of its root's kind
pub tree_of : (arity n : ℕ) (r : Source) (g : Forest Source) → Lawful (source_rules arity) (next none r g) → Plain (kind_of r.node) → Tree arity n r g
tree_of arity n r g (lf, lg, size, below) plain = root_tree arity n r g size plain below (trees_of arity n g [] lg (plain_below arity r 0 g plain below) tt)

-- a lawful rule tree reads as a rule
pub rule_of : (n : ℕ) (xs : List Source) → IsTreeOf kind.Rule xs → (r : RuleTree) × (enumerate_from n xs ≡ rule_records r) × HasNoMacros r
rule_of n xs (r, g, shape, lawful, k) =
    let (t, same, laid, m) = tree_of 0 n r g lawful (omega (arith, ap place k)) in
    let (rule, e, p, is) = as_rule 0 t (ap (λ l. same_kind l kind.Rule) (same ∙ k)) m in
    (rule, ap (enumerate_from n) shape ∙ laid ∙ e, record { pattern = p; if_lets = is })
