-- Rules as ISLE's abstract syntax has them, and the part of the source list that is one.
use Rattle.std.specs.Prelude.{◌≡◌, ℤ, ◌≤◌, List, ◌++◌, length, Option, All}
use Rattle.std.specs.List.{enumerate_from, flat_map}
use Rattle.records.specs.Parts.{slice}
use Rattle.records.specs.declared.source.Name.{Name}
use Rattle.records.specs.declared.source.Node.TheVariants as node
use Rattle.records.specs.declared.source.Part.{Part}
use Rattle.records.specs.declared.source.Source.{Source}
use Rattle.definition.specs.PatternTrees.{At, Numbered, rooted, PatternTree, pattern_records, MacrosBelow}
use Rattle.definition.specs.ExprTrees.{ExprTree, expr_records}

-- the expression is worked out, then matched
pub record IfLetTree : Type 0 where
  pub at : At
  pub pattern : PatternTree
  pub expr : ExprTree

-- the pattern has the rule's root term; where it and all if-lets match, the expression gives the value
pub record RuleTree : Type 0 where
  pub at : At
  pub prio : Option ℤ
  pub name : Option Name
  pub pattern : PatternTree
  pub if_lets : List IfLetTree
  pub expr : ExprTree

abbrev pub if_let_records : IfLetTree → List Numbered
if_let_records i = rooted i.at node.IfLet (pattern_records i.pattern ++ expr_records i.expr)

abbrev pub rule_records : RuleTree → List Numbered
rule_records r = rooted r.at (node.Rule r.prio r.name) (pattern_records r.pattern ++ (flat_map if_let_records r.if_lets ++ expr_records r.expr))

-- no macro argument stands in the rule: those are for templates
pub record HasNoMacros (r : RuleTree) : Type 0 where
  pub pattern : MacrosBelow 0 r.pattern
  pub if_lets : All (λ i. MacrosBelow 0 i.pattern) r.if_lets

-- the part lies in the list, and its records, each with its number in the list, are those of the rule
pub record LaysOutRule (source : List Source) (p : Part) (r : RuleTree) : Type 0 where
  pub within : p.end ≤ length source
  pub laid_out : enumerate_from p.start (slice source p) ≡ rule_records r
  pub no_macros : HasNoMacros r

-- the part lays out that rule and no other
abbrev pub LaysOutOne : List Source → Part → RuleTree → Type 0
LaysOutOne source p r = LaysOutRule source p r × ((s : RuleTree) → LaysOutRule source p s → s ≡ r)
