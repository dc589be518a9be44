-- Which records may stand below which in a definition.
use Rattle.std.specs.Prelude.{ℕ, Bool, true, if◌then◌else◌, ◌==◌, nat_le}
use Rattle.records.specs.declared.source.Expr.{Expr}
use Rattle.records.specs.declared.source.Expr.TheVariants as expr
use Rattle.records.specs.declared.source.Node.{Node}
use Rattle.records.specs.declared.source.Node.TheVariants as node
use Rattle.records.specs.declared.source.Source.{Source}
use Rattle.records.specs.Patterns.{pattern_counts}
use Rattle.tree.specs.Layout.{Rules}
use Rattle.definition.specs.declared.grammar.Kind.{Kind}
use Rattle.definition.specs.declared.grammar.Kind.TheVariants as kind

-- what a record is the root of
abbrev pub kind_of : Node → Kind
kind_of (node.Pattern p) = kind.Pattern
kind_of (node.Expr e) = kind.Expr
kind_of (node.LetDef var ty) = kind.LetDef
kind_of node.IfLet = kind.IfLet
kind_of (node.Rule prio name) = kind.Rule
kind_of (node.Ident name) = kind.Ident
kind_of node.Converter = kind.Converter

-- over how many trees an expression may stand
abbrev pub expr_counts : Expr → ℕ → Bool
expr_counts (expr.Term sym) n = true
expr_counts (expr.Var name) n = n == 0
expr_counts (expr.ConstBool val) n = n == 0
expr_counts (expr.ConstInt val) n = n == 0
expr_counts (expr.ConstPrim val) n = n == 0
expr_counts expr.Let n = nat_le 1 n

-- over how many trees a record may stand, in a template of that arity
abbrev pub counts : ℕ → Node → ℕ → Bool
counts arity (node.Pattern p) n = pattern_counts arity p n
counts arity (node.Expr e) n = expr_counts e n
counts arity (node.LetDef var ty) n = n == 1
counts arity node.IfLet n = n == 2
counts arity (node.Rule prio name) n = nat_le 2 n
counts arity (node.Ident name) n = n == 0
counts arity node.Converter n = n == 3

-- an expression comes last in a let, behind definitions
abbrev pub expr_child : Expr → ℕ → Kind
expr_child (expr.Term sym) after = kind.Expr
expr_child (expr.Var name) after = kind.Expr
expr_child (expr.ConstBool val) after = kind.Expr
expr_child (expr.ConstInt val) after = kind.Expr
expr_child (expr.ConstPrim val) after = kind.Expr
expr_child expr.Let after = if after == 0 then kind.Expr else kind.LetDef

-- what has to stand below a record, by how many trees stand after it there and whether none stands before it
abbrev pub child_kind : Node → ℕ → Bool → Kind
child_kind (node.Pattern p) after first = kind.Pattern
child_kind (node.Expr e) after first = expr_child e after
child_kind (node.LetDef var ty) after first = kind.Expr
child_kind node.IfLet after first = if after == 0 then kind.Expr else kind.Pattern
child_kind (node.Rule prio name) after first = if after == 0 then kind.Expr else (if first then kind.Pattern else kind.IfLet)
child_kind (node.Ident name) after first = kind.Ident
child_kind node.Converter after first = kind.Ident

abbrev pub place : Kind → ℕ
place kind.Pattern = 0
place kind.Expr = 1
place kind.LetDef = 2
place kind.IfLet = 3
place kind.Rule = 4
place kind.Ident = 5
place kind.Converter = 6

abbrev pub same_kind : Kind → Kind → Bool
same_kind k l = place k == place l

-- the grammar of all trees of the source list, with macro arguments below the arity
abbrev pub source_rules : ℕ → Rules Source
source_rules arity = record {
  size = λ s. s.size;
  counts = λ s n. counts arity s.node n;
  takes = λ s c after first. same_kind (kind_of c.node) (child_kind s.node after first);
}

-- a definition has no arguments, and so no macro argument
abbrev pub definition_rules : Rules Source
definition_rules = source_rules 0
