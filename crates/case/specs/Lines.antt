-- The lines of the environment, of hosts and of calls, word by word. Word 0 is the one that a line begins with.
use Rattle.std.specs.Prelude.{ℕ, if◌then◌else◌, ◌&&◌, List, drop, Ok, Err, Result}
use Rattle.records.specs.declared.env.TermKind.{TermKind}
use Rattle.records.specs.declared.env.TermKind.TheVariants as term
use Rattle.records.specs.declared.env.TermFlags.{TermFlags}
use Rattle.records.specs.declared.ids.TermId.{TermId}
use Rattle.records.specs.declared.ids.TypeId.{TypeId}
use Rattle.records.specs.declared.source.Part.{Part}
use Rattle.words.specs.declared.cutting.Word.{Word}
use Rattle.items.specs.declared.faults.Malformed.{Malformed}
use Rattle.items.specs.declared.faults.Malformed.TheVariants as malformed
use Rattle.items.specs.declared.items.Item.{Item}
use Rattle.items.specs.declared.items.Item.TheVariants as item
use Rattle.items.specs.declared.items.Literal.{Literal}
use Rattle.items.specs.declared.items.Literal.TheVariants as literal
use Rattle.case.specs.declared.kinds.LiteralKind.{LiteralKind}
use Rattle.case.specs.declared.kinds.LiteralKind.TheVariants as kind
use Rattle.case.specs.declared.kinds.TermTag.{TermTag}
use Rattle.case.specs.declared.kinds.TermTag.TheVariants as tag
use Rattle.case.specs.Fields.{bind, word, dash, optional, exactly, at_least, short, wide, long, integer, flag, name, each, table}
use Rattle.case.specs.Kinds.{type_kind, constructor, term_tag, host_kind, row_kind, literal_kind, extractor, flags}

abbrev pub Line : Type 0
Line = List Word → Result Item Malformed

abbrev pub type_id : ℕ → TypeId
type_id n = record { 0 = n }

-- limit TABLE N
abbrev pub limit_line : Line
limit_line ws = bind (exactly 3 ws) (λ _. bind (table (word ws 1)) (λ t. bind (long (word ws 2)) (λ n. Ok (item.Limit t n))))

-- expand 0, expand 1
abbrev pub expand_line : Line
expand_line ws = bind (exactly 2 ws) (λ _. bind (flag (word ws 1)) (λ on. Ok (item.Expand on)))

-- symbol NAME
abbrev pub symbol_line : Line
symbol_line ws = bind (exactly 2 ws) (λ _. bind (name (word ws 1)) (λ n. Ok (item.Symbol n)))

-- type NAME KIND
abbrev pub type_line : Line
type_line ws = bind (exactly 3 ws) (λ _. bind (name (word ws 1)) (λ n. bind (type_kind (word ws 2)) (λ k. Ok (item.«Type» n k))))

-- const NAME TYPE
abbrev pub const_line : Line
const_line ws = bind (exactly 3 ws) (λ _. bind (name (word ws 1)) (λ n. bind (short (word ws 2)) (λ t. Ok (item.Const n (type_id t)))))

-- - - -, where a term has neither flags nor kinds of its own
abbrev pub bare : List Word → TermKind → Result TermKind Malformed
bare ws k = if dash (word ws 3) && (dash (word ws 4) && dash (word ws 5)) then Ok k else Err malformed.UnknownWord

-- FLAGS CTOR EXTR
abbrev pub declared : List Word → Result TermKind Malformed
declared ws = bind (flags (word ws 3)) (λ f. bind (optional constructor (word ws 4)) (λ c. bind (optional extractor (word ws 5)) (λ e. Ok (term.Decl f c e))))

-- KIND FLAGS CTOR EXTR
abbrev pub kind_by : List Word → TermTag → Result TermKind Malformed
kind_by ws tag.Variant = bare ws term.EnumVariant
kind_by ws tag.Struct = bare ws term.Struct
kind_by ws tag.Decl = declared ws

abbrev pub term_kind : List Word → Result TermKind Malformed
term_kind ws = bind (term_tag (word ws 2)) (λ t. kind_by ws t)

-- term NAME KIND FLAGS CTOR EXTR RET ARG...
abbrev pub term_line : Line
term_line ws =
    bind (at_least 7 ws) (λ _. bind (name (word ws 1)) (λ n. bind (term_kind ws) (λ k. bind (short (word ws 6)) (λ ret. bind (each short (drop 7 ws)) (λ _. Ok (item.Term n k (type_id ret) 7))))))

-- host measure, host listed
abbrev pub host_line : Line
host_line ws = bind (exactly 2 ws) (λ _. bind (host_kind (word ws 1)) (λ k. Ok (item.Host k)))

abbrev pub term_id : ℕ → TermId
term_id n = record { 0 = n }

-- row TERM sum, row TERM same
abbrev pub row_line : Line
row_line ws = bind (exactly 3 ws) (λ _. bind (short (word ws 1)) (λ t. bind (row_kind (word ws 2)) (λ k. Ok (item.Row (term_id t) k))))

-- code CODE TYPE
abbrev pub code_line : Line
code_line ws = bind (exactly 3 ws) (λ _. bind (long (word ws 1)) (λ c. bind (short (word ws 2)) (λ t. Ok (item.Code c (type_id t)))))

-- make TERM CODE ARG...
abbrev pub make_line : Line
make_line ws = bind (at_least 3 ws) (λ _. bind (short (word ws 1)) (λ t. bind (long (word ws 2)) (λ c. bind (each long (drop 3 ws)) (λ _. Ok (item.Make (term_id t) c 3)))))

-- VALUE, by the kind of the literal
abbrev pub literal_by : List Word → LiteralKind → Result Literal Malformed
literal_by ws kind.Bool = bind (flag (word ws 3)) (λ v. Ok (literal.Bool v))
literal_by ws kind.Int = bind (integer (word ws 3)) (λ v. Ok (literal.Int v))
literal_by ws kind.Const = bind (short (word ws 3)) (λ v. Ok (literal.Const (record { 0 = v })))

-- lit TYPE KIND VALUE CODE
abbrev pub lit_line : Line
lit_line ws =
    bind (exactly 5 ws) (λ _. bind (short (word ws 1)) (λ t. bind (literal_kind (word ws 2)) (λ k. bind (literal_by ws k) (λ l. bind (long (word ws 4)) (λ c. Ok (item.Lit (type_id t) l c))))))

-- flags out of p and o alone
abbrev pub sign_flags : List Word → Result TermFlags Malformed
sign_flags ws = bind (flags (word ws 2)) (λ f. if f.multi then Err malformed.UnknownWord else if f.rec then Err malformed.UnknownWord else Ok f)

-- sign TERM FLAGS RET ARG...
abbrev pub sign_line : Line
sign_line ws =
    bind (at_least 4 ws) (λ _. bind (short (word ws 1)) (λ t. bind (sign_flags ws) (λ f. bind (short (word ws 3)) (λ ret. bind (each short (drop 4 ws)) (λ _. Ok (item.Sign (term_id t) f.pure f.partial (type_id ret) 4))))))

-- a call that is one word
abbrev pub lone : Item → Line
lone i ws = bind (exactly 1 ws) (λ _. Ok i)

-- CALL START END
abbrev pub part_at : List Word → Result Part Malformed
part_at ws = bind (exactly 3 ws) (λ _. bind (wide (word ws 1)) (λ start. bind (wide (word ws 2)) (λ end. Ok (record { start = start; end = end }))))

-- run RULE VALUES WORK ARG...
abbrev pub run_line : Line
run_line ws =
    bind (at_least 4 ws) (λ _. bind (short (word ws 1)) (λ r. bind (long (word ws 2)) (λ values. bind (long (word ws 3)) (λ work. bind (each long (drop 4 ws)) (λ _. Ok (item.Run (record { 0 = r }) values work 4))))))
