-- The words that have a meaning of their own.
use Rattle.std.specs.Prelude.{ℕ, Bool, true, false, if◌then◌else◌, List, [], ◌∷◌, Ok, Err, codes, Result, ◌==◌}
use Rattle.std.specs.Borrow.{Bor}
use Rattle.std.specs.List.{list_any, before_first, after_first}
use Rattle.std.specs.Str.{bytes_eq}
use Rattle.records.specs.declared.env.ConstructorKind.{ConstructorKind}
use Rattle.records.specs.declared.env.ConstructorKind.TheVariants as kinds
use Rattle.records.specs.declared.env.ExtractorKind.{ExtractorKind}
use Rattle.records.specs.declared.env.ExtractorKind.TheVariants as extractors
use Rattle.records.specs.declared.env.TermFlags.{TermFlags}
use Rattle.records.specs.declared.env.TypeKind.{TypeKind}
use Rattle.records.specs.declared.env.TypeKind.TheVariants as kind
use Rattle.records.specs.declared.source.Part.{Part}
use Rattle.items.specs.declared.faults.Malformed.{Malformed}
use Rattle.items.specs.declared.faults.Malformed.TheVariants as malformed
use Rattle.items.specs.declared.items.HostKind.{HostKind}
use Rattle.items.specs.declared.items.HostKind.TheVariants as host
use Rattle.items.specs.declared.items.RowKind.{RowKind}
use Rattle.items.specs.declared.items.RowKind.TheVariants as row
use Rattle.case.specs.declared.kinds.ExprTag.TheVariants as expr
use Rattle.case.specs.declared.kinds.Keyword.{Keyword}
use Rattle.case.specs.declared.kinds.Keyword.TheVariants as key
use Rattle.case.specs.declared.kinds.LiteralKind.{LiteralKind}
use Rattle.case.specs.declared.kinds.LiteralKind.TheVariants as literal
use Rattle.case.specs.declared.kinds.PatternTag.TheVariants as pattern
use Rattle.case.specs.declared.kinds.Tag.{Tag}
use Rattle.case.specs.declared.kinds.Tag.TheVariants as tag
use Rattle.case.specs.declared.kinds.TermTag.{TermTag}
use Rattle.case.specs.declared.kinds.TermTag.TheVariants as term
use Rattle.words.specs.Cut.{Seen}
use Rattle.case.specs.Fields.{bind, number, dash}

-- what a word means by a table, and the fault where it is not there
abbrev pub look_up : {K : Type 0} → Malformed → List (List ℕ × K) → List ℕ → Result K Malformed
look_up e [] w = Err e
look_up e (entry ∷ entries) w = if bytes_eq w entry.0 then Ok entry.1 else look_up e entries w

abbrev pub UnknownLine : Malformed
UnknownLine = malformed.UnknownLine

abbrev pub UnknownWord : Malformed
UnknownWord = malformed.UnknownWord

abbrev pub keywords : List (List ℕ × Keyword)
keywords =
    (codes "limit", key.Limit)
    ∷ (codes "expand", key.Expand)
    ∷ (codes "symbol", key.Symbol)
    ∷ (codes "type", key.«Type»)
    ∷ (codes "const", key.Const)
    ∷ (codes "term", key.Term)
    ∷ (codes "src", key.Source)
    ∷ (codes "host", key.Host)
    ∷ (codes "row", key.Row)
    ∷ (codes "code", key.Code)
    ∷ (codes "make", key.Make)
    ∷ (codes "lit", key.Lit)
    ∷ (codes "sign", key.Sign)
    ∷ (codes "open", key.Open)
    ∷ (codes "converter", key.Converter)
    ∷ (codes "close", key.Close)
    ∷ (codes "rule", key.Rule)
    ∷ (codes "finish", key.Finish)
    ∷ (codes "run", key.Run)
    ∷ (codes "dump", key.Dump)
    ∷ []

abbrev pub tags : List (List ℕ × Tag)
tags =
    (codes "p-var", tag.Pattern pattern.Var)
    ∷ (codes "p-bind", tag.Pattern pattern.Bind)
    ∷ (codes "p-bool", tag.Pattern pattern.Bool)
    ∷ (codes "p-int", tag.Pattern pattern.Int)
    ∷ (codes "p-const", tag.Pattern pattern.Const)
    ∷ (codes "p-term", tag.Pattern pattern.Term)
    ∷ (codes "p-wild", tag.Pattern pattern.Wild)
    ∷ (codes "p-and", tag.Pattern pattern.And)
    ∷ (codes "p-arg", tag.Pattern pattern.Arg)
    ∷ (codes "e-term", tag.Expr expr.Term)
    ∷ (codes "e-var", tag.Expr expr.Var)
    ∷ (codes "e-bool", tag.Expr expr.Bool)
    ∷ (codes "e-int", tag.Expr expr.Int)
    ∷ (codes "e-const", tag.Expr expr.Const)
    ∷ (codes "e-let", tag.Expr expr.Let)
    ∷ (codes "def", tag.Def)
    ∷ (codes "iflet", tag.IfLet)
    ∷ (codes "rule", tag.Rule)
    ∷ (codes "name", tag.Name)
    ∷ (codes "converter", tag.Converter)
    ∷ []

abbrev pub type_kinds : List (List ℕ × TypeKind)
type_kinds = (codes "bool", kind.Bool) ∷ (codes "int", kind.Int) ∷ (codes "prim", kind.Primitive) ∷ (codes "enum", kind.Enum) ∷ (codes "struct", kind.Struct) ∷ []

abbrev pub term_tags : List (List ℕ × TermTag)
term_tags = (codes "variant", term.Variant) ∷ (codes "struct", term.Struct) ∷ (codes "decl", term.Decl) ∷ []

abbrev pub host_kinds : List (List ℕ × HostKind)
host_kinds = (codes "measure", host.Measure) ∷ (codes "listed", host.Listed) ∷ []

abbrev pub row_kinds : List (List ℕ × RowKind)
row_kinds = (codes "sum", row.Sum) ∷ (codes "same", row.Same) ∷ []

abbrev pub literal_kinds : List (List ℕ × LiteralKind)
literal_kinds = (codes "bool", literal.Bool) ∷ (codes "int", literal.Int) ∷ (codes "const", literal.Const) ∷ []

abbrev pub constructors : List (List ℕ × ConstructorKind)
constructors = (codes "int", kinds.Internal) ∷ (codes "ext", kinds.External) ∷ []

abbrev pub is_colon : ℕ → Bool
is_colon b = b == 58

-- what stands before and behind the first colon
unfoldable pub at_colon : List ℕ → Result (List ℕ × List ℕ) Malformed
at_colon t = if list_any is_colon t then Ok (before_first is_colon t, after_first is_colon t) else Err malformed.UnknownWord

abbrev pub parts_seen : Result (Bor (List ℕ) × Bor (List ℕ)) Malformed → Result (List ℕ × List ℕ) Malformed
parts_seen (Ok p) = Ok (p.0.now, p.1.now)
parts_seen (Err e) = Err e

-- tmpl:START:END
abbrev pub part : List ℕ → Result Part Malformed
part t = bind (at_colon t) (λ p. bind (number 4294967295 p.0) (λ start. bind (number 4294967295 p.1) (λ end. Ok (record { start = start; end = end }))))

unfoldable pub template : List ℕ → Result Part Malformed
template t = bind (at_colon t) (λ p. if bytes_eq p.0 (codes "tmpl") then part p.1 else Err malformed.UnknownWord)

-- ext, or a template
unfoldable pub extractor : Seen → Result ExtractorKind Malformed
extractor w = if bytes_eq w.1 (codes "ext") then Ok extractors.External else bind (template w.1) (λ p. Ok (extractors.Internal p))

-- a flag that must not be there yet
abbrev pub raised : Bool → TermFlags → Result TermFlags Malformed
raised there f = if there then Err malformed.UnknownWord else Ok f

abbrev pub with_flag : TermFlags → ℕ → Result TermFlags Malformed
with_flag f b =
    if b == 112 then raised f.pure (record { pure = true; multi = f.multi; partial = f.partial; rec = f.rec })
    else if b == 109 then raised f.multi (record { pure = f.pure; multi = true; partial = f.partial; rec = f.rec })
    else if b == 111 then raised f.partial (record { pure = f.pure; multi = f.multi; partial = true; rec = f.rec })
    else if b == 114 then raised f.rec (record { pure = f.pure; multi = f.multi; partial = f.partial; rec = true })
    else Err malformed.UnknownWord

abbrev pub no_flags : TermFlags
no_flags = record { pure = false; multi = false; partial = false; rec = false }

unfoldable pub flags_on : TermFlags → List ℕ → Result TermFlags Malformed
flags_on f [] = Ok f
flags_on f (b ∷ bs) = bind (with_flag f b) (λ f. flags_on f bs)

-- -, or letters out of p m o r, each at most once
unfoldable pub flags : Seen → Result TermFlags Malformed
flags w = if dash w then Ok no_flags else flags_on no_flags w.1

-- what a word means by each table
unfoldable pub keyword : Seen → Result Keyword Malformed
keyword w = look_up UnknownLine keywords w.1

unfoldable pub tag_of : Seen → Result Tag Malformed
tag_of w = look_up UnknownWord tags w.1

unfoldable pub type_kind : Seen → Result TypeKind Malformed
type_kind w = look_up UnknownWord type_kinds w.1

unfoldable pub host_kind : Seen → Result HostKind Malformed
host_kind w = look_up UnknownWord host_kinds w.1

unfoldable pub row_kind : Seen → Result RowKind Malformed
row_kind w = look_up UnknownWord row_kinds w.1

unfoldable pub literal_kind : Seen → Result LiteralKind Malformed
literal_kind w = look_up UnknownWord literal_kinds w.1

unfoldable pub constructor : Seen → Result ConstructorKind Malformed
constructor w = look_up UnknownWord constructors w.1

unfoldable pub term_tag : Seen → Result TermTag Malformed
term_tag w = look_up UnknownWord term_tags w.1
