-- Which trees of the source list are templates: patterns, with macro arguments below the term's arity.
use Rattle.std.specs.Prelude.{ℕ, Bool, true, false}
use Rattle.records.specs.declared.source.Node.{Node}
use Rattle.records.specs.declared.source.Node.TheVariants as node
use Rattle.records.specs.declared.source.Source.{Source}
use Rattle.records.specs.Patterns.{pattern_counts}
use Rattle.tree.specs.Layout.{Rules}

-- no other record stands in a template
abbrev pub template_counts : ℕ → Node → ℕ → Bool
template_counts arity (node.Pattern p) n = pattern_counts arity p n
template_counts arity (node.Expr e) n = false
template_counts arity (node.LetDef var ty) n = false
template_counts arity node.IfLet n = false
template_counts arity (node.Rule prio name) n = false
template_counts arity (node.Ident name) n = false
template_counts arity node.Converter n = false

abbrev pub template_rules : ℕ → Rules Source
template_rules arity = record {
  size = λ s. s.size;
  counts = λ s n. template_counts arity s.node n;
  takes = λ s c after first. true;
}
