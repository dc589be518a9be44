-- The records of a rule are a lawful tree.
use Rattle.std.proofs.Common.{◌≡◌, ℕ, ◌+◌, ◌≤◌, Bool, true, false, ℤ, Option, List, [], ◌∷◌, ◌++◌, map, length, All, flat_map, sym, refl, ap, ◌∙◌, arith}
use Rattle.std.specs.List.{enumerate_from}
use Rattle.std.proofs.lemmas.Bool.{le-leb, lt-ltb, eq-eqb, ne_eqb}
use Rattle.std.proofs.lemmas.List.{append-nil, append_assoc, map-append, length-map}
use Rattle.std.proofs.lemmas.List.Elements.{All-head, All-tail}
use Rattle.records.specs.declared.source.Expr.TheVariants as expr
use Rattle.records.specs.declared.source.Name.{Name}
use Rattle.records.specs.declared.source.Node.{Node}
use Rattle.records.specs.declared.source.Node.TheVariants as node
use Rattle.records.specs.declared.source.Pattern.TheVariants as pattern
use Rattle.records.specs.declared.source.Source.{Source}
use Rattle.tree.specs.Layout.{Forest, none, next, flat, empty, Below, Lawful}
use Rattle.tree.proofs.Forests.{joined}
use Rattle.definition.specs.Grammar.{kind_of, place, counts, child_kind, same_kind, source_rules}
use Rattle.definition.specs.Lawful.{IsTreeOf}
use Rattle.definition.specs.PatternTrees.{At, Numbered, node_record, rooted, PatternTree, PatternTrees, pattern_records, patterns_records, MacrosBelow, AllMacrosBelow}
use Rattle.definition.specs.PatternTrees as p
use Rattle.definition.specs.ExprTrees.{ExprTree, ExprTrees, LetDefTree, let_def, LetDefTrees, no_defs, more_defs, expr_records, exprs_records, let_def_records, let_defs_records}
use Rattle.definition.specs.ExprTrees as e
use Rattle.definition.specs.RuleTrees.{IfLetTree, RuleTree, if_let_records, rule_records, HasNoMacros}
use Rattle.definition.specs.declared.grammar.Kind.{Kind}
use Rattle.definition.specs.declared.grammar.Kind.TheVariants as kind

-- the records without their numbers
abbrev pub plain : List Numbered → List Source
plain = map (λ x. x.1)

-- the record of a root over those records
abbrev root_record : At → Node → List Numbered → Source
root_record at node ns = (node_record at node (length ns)).1

-- a list whose elements are numbered, without the numbers
plain-numbered : (n : ℕ) (xs : List Source) → plain (enumerate_from n xs) ≡ xs
plain-numbered n [] = refl
plain-numbered n (x ∷ xs) = ap (λ ys. x ∷ ys) (plain-numbered (n + 1) xs)

-- each root in the forest has that kind
abbrev pub AllRoots : Kind → Forest Source → Type 0
AllRoots k none = Unit {0}
AllRoots k (next f r g) = AllRoots k f × (kind_of r.node ≡ k)

-- what two forests joined lay out
flat-joined : (f g : Forest Source) → flat (joined f g) ≡ flat f ++ flat g
flat-joined f none = sym (append-nil (flat f))
flat-joined f (next g r k) = ap (λ xs. xs ++ (flat k ++ r ∷ [])) (flat-joined f g) ∙ append_assoc (flat f) (flat g) (flat k ++ r ∷ [])

-- what lays out each of two forests lays out the two joined
laid-joined : (xs ys : List Numbered) (f g : Forest Source) → plain xs ≡ flat f → plain ys ≡ flat g → plain (xs ++ ys) ≡ flat (joined f g)
laid-joined xs ys f g lf lg = map-append (λ x. x.1) xs ys ∙ (λ i. lf i ++ lg i) ∙ sym (flat-joined f g)

-- two forests with roots of one kind, joined, have roots of that kind
roots-joined : (k : Kind) (f g : Forest Source) → AllRoots k f → AllRoots k g → AllRoots k (joined f g)
roots-joined k f none af ag = af
roots-joined k f (next g r h) af (ag, is) = (roots-joined k f g af ag, is)

-- trees behind another tree are not none
empty-joined : (r : Source) (h g : Forest Source) → empty (joined (next none r h) g) ≡ false
empty-joined r h none = refl
empty-joined r h (next g s k) = refl

-- a root of the kind that is wanted there is taken
takes_kind : (k found wanted : Kind) → found ≡ k → wanted ≡ k → same_kind found wanted ≡ true
takes_kind k found wanted f w = rw (f, w) (eq-eqb (place k) (place k) refl)

module _ (arity : ℕ) where
  -- two lawful forests joined are lawful
  lawful-joined : (f g : Forest Source) → Lawful (source_rules arity) f → Lawful (source_rules arity) g → Lawful (source_rules arity) (joined f g)
  lawful-joined f none lf lg = lf
  lawful-joined f (next g r k) lf (lg, lk, size, below) = (lawful-joined f g lf lg, lk, size, below)

  -- the records, without their numbers, are one lawful tree, whose root is of that kind
  pub record WritesTree (k : Kind) (ns : List Numbered) : Type 0 where
    pub root : Source
    pub below : Forest Source
    pub laid : plain ns ≡ flat (next none root below)
    pub lawful : Lawful (source_rules arity) (next none root below)
    pub is : kind_of root.node ≡ k

  -- the records, without their numbers, are lawful trees, each with a root of that kind
  pub record WritesTrees (k : Kind) (ns : List Numbered) : Type 0 where
    pub trees : Forest Source
    pub laid : plain ns ≡ flat trees
    pub lawful : Lawful (source_rules arity) trees
    pub roots : AllRoots k trees

  -- no records are no trees
  no_trees : (k : Kind) → WritesTrees k []
  no_trees k = record { trees = none; laid = refl; lawful = tt; roots = tt }

  -- the records of a tree, then those of more trees, are trees
  more_trees : {k : Kind} {xs ys : List Numbered} → WritesTree k xs → WritesTrees k ys → WritesTrees k (xs ++ ys)
  more_trees {k} {xs} {ys} t ts = record {
    trees = joined (next none t.root t.below) ts.trees;
    laid = laid-joined xs ys (next none t.root t.below) ts.trees t.laid ts.laid;
    lawful = lawful-joined (next none t.root t.below) ts.trees t.lawful ts.lawful;
    roots = roots-joined k (next none t.root t.below) ts.trees (tt, t.is) ts.roots;
  }

  -- a root over trees that may stand below it is a tree
  root_over : (at : At) (node : Node) (ns : List Numbered) (f : Forest Source) → plain ns ≡ flat f → Lawful (source_rules arity) f → Below (source_rules arity) (root_record at node ns) 0 f → WritesTree (kind_of node) (rooted at node ns)
  root_over at node ns f laid lawful below = record {
    root = root_record at node ns;
    below = f;
    laid = map-append (λ x. x.1) ns _ ∙ ap (λ xs. xs ++ root_record at node ns ∷ []) laid;
    lawful = (tt, lawful, omega (arith, ap length laid, length-map ns (λ x. x.1)), below);
    is = refl;
  }

  -- trees of one kind may stand, in front of m others at least, where that kind is wanted and that many are allowed
  below_same : (k : Kind) (r : Source) (m : ℕ) → ((n : ℕ) → m ≤ n → counts arity r.node n ≡ true) → ((n : ℕ) (first : Bool) → m ≤ n → child_kind r.node n first ≡ k) → (f : Forest Source) → AllRoots k f → (after : ℕ) → m ≤ after → Below (source_rules arity) r after f
  below_same k r m may want none roots after le = may after le
  below_same k r m may want (next f c g) (roots, is) after le =
      (takes_kind k _ _ is (want after (empty f) le), below_same k r m may want f roots (after + 1) (omega arith))

  -- a root with nothing below it
  leaf : (at : At) (node : Node) → counts arity node 0 ≡ true → WritesTree (kind_of node) (rooted at node [])
  leaf at node may = root_over at node [] none refl tt may

  -- a root over trees, the last of which is of the kind that is wanted there
  over_last : {k : Kind} {ys : List Numbered} (at : At) (node : Node) (xs : List Numbered) (f : Forest Source) → plain xs ≡ flat f → Lawful (source_rules arity) f → WritesTree k ys → child_kind node 0 (empty f) ≡ k → ((r : Source) → r.node ≡ node → Below (source_rules arity) r 1 f) → WritesTree (kind_of node) (rooted at node (xs ++ ys))
  over_last {k} {ys} at node xs f laid lawful t want below =
      let (_, under, size, stands) = t.lawful in
      root_over at node (xs ++ ys) (next f t.root t.below) (map-append (λ x. x.1) xs ys ∙ (λ i. laid i ++ t.laid i)) (lawful, under, size, stands) (takes_kind k _ _ t.is want, below (root_record at node (xs ++ ys)) refl)

  -- a root over one tree of the kind that it wants
  over_one : {k : Kind} {ns : List Numbered} (at : At) (node : Node) → counts arity node 1 ≡ true → child_kind node 0 true ≡ k → WritesTree k ns → WritesTree (kind_of node) (rooted at node ns)
  over_one at node may want t = over_last at node [] none refl tt t want (λ r is. rw is may)

  -- a root that may stand over any number of trees of one kind, over such trees
  over_many : {k : Kind} {ns : List Numbered} (at : At) (node : Node) → ((n : ℕ) → counts arity node n ≡ true) → ((n : ℕ) (first : Bool) → child_kind node n first ≡ k) → WritesTrees k ns → WritesTree (kind_of node) (rooted at node ns)
  over_many {k} {ns} at node may want ts =
      root_over at node ns ts.trees ts.laid ts.lawful (below_same k (root_record at node ns) 0 (λ n le. may n) (λ n first le. want n first) ts.trees ts.roots 0 (omega arith))

  mutual
    -- the records of a pattern are a tree
    pub pattern_tree : (p : PatternTree) → MacrosBelow arity p → WritesTree kind.Pattern (pattern_records p)
    pattern_tree (p.var at name) m = leaf at (node.Pattern (pattern.Var name)) refl
    pattern_tree (p.bind_pattern at name p) m = over_one at (node.Pattern (pattern.BindPattern name)) refl refl (pattern_tree p m)
    pattern_tree (p.const_bool at val) m = leaf at (node.Pattern (pattern.ConstBool val)) refl
    pattern_tree (p.const_int at val) m = leaf at (node.Pattern (pattern.ConstInt val)) refl
    pattern_tree (p.const_prim at name) m = leaf at (node.Pattern (pattern.ConstPrim name)) refl
    pattern_tree (p.term at name args) m = over_many at (node.Pattern (pattern.Term name)) (λ n. refl) (λ n first. refl) (patterns_trees args m)
    pattern_tree (p.wildcard at) m = leaf at (node.Pattern pattern.Wildcard) refl
    pattern_tree (p.«and» at ps) m = over_many at (node.Pattern pattern.And) (λ n. refl) (λ n first. refl) (patterns_trees ps m)
    pattern_tree (p.macro_arg at index) m = leaf at (node.Pattern (pattern.MacroArg index)) (rw (lt-ltb index arity m) refl)

    -- the records of patterns are trees
    pub patterns_trees : (ps : PatternTrees) → AllMacrosBelow arity ps → WritesTrees kind.Pattern (patterns_records ps)
    patterns_trees p.none m = no_trees kind.Pattern
    patterns_trees (p.more p ps) (m, ms) = more_trees (pattern_tree p m) (patterns_trees ps ms)

  -- definitions may stand below a let in front of its body
  below_let : (f : Forest Source) → AllRoots kind.LetDef f → (r : Source) → r.node ≡ node.Expr expr.Let → Below (source_rules arity) r 1 f
  below_let f roots r is = below_same kind.LetDef r 1 (λ n le. rw is (le-leb 1 n le)) (λ n first le. rw (is, ne_eqb n 0 (omega (arith, le))) refl) f roots 1 (omega arith)

  mutual
    -- the records of an expression are a tree
    pub expr_tree : (e : ExprTree) → WritesTree kind.Expr (expr_records e)
    expr_tree (e.term at name args) = over_many at (node.Expr (expr.Term name)) (λ n. refl) (λ n first. refl) (exprs_trees args)
    expr_tree (e.var at name) = leaf at (node.Expr (expr.Var name)) refl
    expr_tree (e.const_bool at val) = leaf at (node.Expr (expr.ConstBool val)) refl
    expr_tree (e.const_int at val) = leaf at (node.Expr (expr.ConstInt val)) refl
    expr_tree (e.const_prim at name) = leaf at (node.Expr (expr.ConstPrim name)) refl
    expr_tree (e.«let» at defs body) =
        let ds = let_defs_trees defs in
        over_last at (node.Expr expr.Let) (let_defs_records defs) ds.trees ds.laid ds.lawful (expr_tree body) refl (below_let ds.trees ds.roots)

    -- the records of expressions are trees
    pub exprs_trees : (es : ExprTrees) → WritesTrees kind.Expr (exprs_records es)
    exprs_trees e.none = no_trees kind.Expr
    exprs_trees (e.more e es) = more_trees (expr_tree e) (exprs_trees es)

    -- the records of a definition in a let are a tree
    pub let_def_tree : (d : LetDefTree) → WritesTree kind.LetDef (let_def_records d)
    let_def_tree (let_def at name ty value) = over_one at (node.LetDef name ty) refl refl (expr_tree value)

    -- the records of such definitions are trees
    pub let_defs_trees : (ds : LetDefTrees) → WritesTrees kind.LetDef (let_defs_records ds)
    let_defs_trees no_defs = no_trees kind.LetDef
    let_defs_trees (more_defs d ds) = more_trees (let_def_tree d) (let_defs_trees ds)

  -- the records of an if-let are a tree
  pub if_let_tree : (i : IfLetTree) → MacrosBelow arity i.pattern → WritesTree kind.IfLet (if_let_records i)
  if_let_tree i m =
      let p = pattern_tree i.pattern m in
      over_last i.at node.IfLet (pattern_records i.pattern) (next none p.root p.below) p.laid p.lawful (expr_tree i.expr) refl (λ r is. (takes_kind kind.Pattern _ _ p.is (rw is refl), rw is refl))

  -- the records of if-lets are trees
  pub if_lets_trees : (is : List IfLetTree) → All (λ i. MacrosBelow arity i.pattern) is → WritesTrees kind.IfLet (flat_map if_let_records is)
  if_lets_trees [] m = no_trees kind.IfLet
  if_lets_trees (i ∷ is) m = more_trees (if_let_tree i (All-head (λ i. MacrosBelow arity i.pattern) i is m)) (if_lets_trees is (All-tail (λ i. MacrosBelow arity i.pattern) i is m))

  -- a pattern, then if-lets, may stand below a rule in front of an expression
  below_rule : (r s : Source) (h : Forest Source) (prio : Option ℤ) (name : Option Name) → r.node ≡ node.Rule prio name → kind_of s.node ≡ kind.Pattern → (f : Forest Source) → AllRoots kind.IfLet f → (after : ℕ) → 1 ≤ after → Below (source_rules arity) r after (joined (next none s h) f)
  below_rule r s h prio name is p none roots after le =
      (takes_kind kind.Pattern _ _ p (rw (is, ne_eqb after 0 (omega (arith, le))) refl), rw is (le-leb 2 (after + 1) (omega (arith, le))))
  below_rule r s h prio name is p (next f c g) (roots, i) after le =
      (takes_kind kind.IfLet _ _ i (rw (is, ne_eqb after 0 (omega (arith, le)), empty-joined s h f) refl), below_rule r s h prio name is p f roots (after + 1) (omega arith))

-- the records of a rule are a tree
pub rule_tree : (r : RuleTree) → HasNoMacros r → WritesTree 0 kind.Rule (rule_records r)
rule_tree r m =
    let p = pattern_tree 0 r.pattern m.pattern in
    let is = if_lets_trees 0 r.if_lets m.if_lets in
    let laid = laid-joined (pattern_records r.pattern) (flat_map if_let_records r.if_lets) (next none p.root p.below) is.trees p.laid is.laid in
    let lawful = lawful-joined 0 (next none p.root p.below) is.trees p.lawful is.lawful in
    let over = over_last 0 r.at (node.Rule r.prio r.name) _ _ laid lawful (expr_tree 0 r.expr) refl (λ s e. below_rule 0 s p.root p.below r.prio r.name e p.is is.trees is.roots 1 (omega arith)) in
    rw (← append_assoc (pattern_records r.pattern) (flat_map if_let_records r.if_lets) (expr_records r.expr)) over

-- what lays out a rule is a lawful tree
pub rule_is_lawful : (n : ℕ) (xs : List Source) (r : RuleTree) → enumerate_from n xs ≡ rule_records r → HasNoMacros r → IsTreeOf kind.Rule xs
rule_is_lawful n xs r written m =
    let t = rule_tree r m in
    (t.root, t.below, sym (plain-numbered n xs) ∙ ap plain written ∙ t.laid, t.lawful, t.is)
