-- Source records: src TAG SIZE FILE OFFSET, and then what the tag asks for.
use Rattle.std.specs.Prelude.{List, Ok, Result}
use Rattle.records.specs.declared.source.Expr.{Expr}
use Rattle.records.specs.declared.source.Expr.TheVariants as exprs
use Rattle.records.specs.declared.source.Node.{Node}
use Rattle.records.specs.declared.source.Node.TheVariants as nodes
use Rattle.records.specs.declared.source.Pattern.{Pattern}
use Rattle.records.specs.declared.source.Pattern.TheVariants as patterns
use Rattle.words.specs.Cut.{Seen}
use Rattle.words.specs.declared.cutting.Word.{Word}
use Rattle.items.specs.declared.faults.Malformed.{Malformed}
use Rattle.items.specs.declared.items.Item.TheVariants as item
use Rattle.case.specs.declared.kinds.ExprTag.{ExprTag}
use Rattle.case.specs.declared.kinds.ExprTag.TheVariants as e
use Rattle.case.specs.declared.kinds.PatternTag.{PatternTag}
use Rattle.case.specs.declared.kinds.PatternTag.TheVariants as p
use Rattle.case.specs.declared.kinds.Tag.{Tag}
use Rattle.case.specs.declared.kinds.Tag.TheVariants as tag
use Rattle.case.specs.Fields.{bind, word, optional, exactly, at_least, short, wide, integer, flag, name}
use Rattle.case.specs.Kinds.{tag_of}
use Rattle.case.specs.Lines.{Line}

-- one more word
abbrev pub only : {A : Type 0} → (Seen → Result A Malformed) → List Word → Result A Malformed
only f ws = bind (exactly 6 ws) (λ _. f (word ws 5))

abbrev pub pattern : List Word → PatternTag → Result Pattern Malformed
pattern ws p.Var = bind (only name ws) (λ n. Ok (patterns.Var n))
pattern ws p.Bind = bind (only name ws) (λ n. Ok (patterns.BindPattern n))
pattern ws p.Bool = bind (only flag ws) (λ v. Ok (patterns.ConstBool v))
pattern ws p.Int = bind (only integer ws) (λ v. Ok (patterns.ConstInt v))
pattern ws p.Const = bind (only name ws) (λ n. Ok (patterns.ConstPrim n))
pattern ws p.Term = bind (only name ws) (λ n. Ok (patterns.Term n))
pattern ws p.Wild = bind (exactly 5 ws) (λ _. Ok patterns.Wildcard)
pattern ws p.And = bind (exactly 5 ws) (λ _. Ok patterns.And)
pattern ws p.Arg = bind (only short ws) (λ i. Ok (patterns.MacroArg i))

abbrev pub expr : List Word → ExprTag → Result Expr Malformed
expr ws e.Term = bind (only name ws) (λ n. Ok (exprs.Term n))
expr ws e.Var = bind (only name ws) (λ n. Ok (exprs.Var n))
expr ws e.Bool = bind (only flag ws) (λ v. Ok (exprs.ConstBool v))
expr ws e.Int = bind (only integer ws) (λ v. Ok (exprs.ConstInt v))
expr ws e.Const = bind (only name ws) (λ n. Ok (exprs.ConstPrim n))
expr ws e.Let = bind (exactly 5 ws) (λ _. Ok exprs.Let)

-- VARIABLE TYPENAME
abbrev pub let_def : List Word → Result Node Malformed
let_def ws = bind (exactly 7 ws) (λ _. bind (name (word ws 5)) (λ var. bind (name (word ws 6)) (λ ty. Ok (nodes.LetDef var ty))))

-- PRIORITY or -, NAME or -
abbrev pub rule_head : List Word → Result Node Malformed
rule_head ws = bind (exactly 7 ws) (λ _. bind (optional integer (word ws 5)) (λ prio. bind (optional name (word ws 6)) (λ n. Ok (nodes.Rule prio n))))

abbrev pub node : List Word → Tag → Result Node Malformed
node ws (tag.Pattern t) = bind (pattern ws t) (λ p. Ok (nodes.Pattern p))
node ws (tag.Expr t) = bind (expr ws t) (λ e. Ok (nodes.Expr e))
node ws tag.Def = let_def ws
node ws tag.IfLet = bind (exactly 5 ws) (λ _. Ok nodes.IfLet)
node ws tag.Rule = rule_head ws
node ws tag.Name = bind (only name ws) (λ n. Ok (nodes.Ident n))
node ws tag.Converter = bind (exactly 5 ws) (λ _. Ok nodes.Converter)

-- src TAG SIZE FILE OFFSET ...
abbrev pub source_line : Line
source_line ws =
    bind (at_least 5 ws) (λ _. bind (tag_of (word ws 1)) (λ t. bind (short (word ws 2)) (λ size. bind (wide (word ws 3)) (λ file. bind (wide (word ws 4)) (λ offset. bind (node ws t) (λ n.
    Ok (item.Source (record { node = n; size = size; pos = record { file = file; offset = offset } }))))))))
