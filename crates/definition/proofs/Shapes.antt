-- The records of a converter definition.
use Rattle.std.proofs.Common.{◌≡◌, ℕ, ◌+◌, ◌<◌, true, List, [], ◌∷◌, ◌++◌, length, refl, ap, ◌∙◌, arith}
use Rattle.std.proofs.lemmas.Bool.{false≢true, eqb-true}
use Rattle.records.specs.declared.source.Name.{Name}
use Rattle.records.specs.declared.source.Node.{Node}
use Rattle.records.specs.declared.source.Node.TheVariants as node
use Rattle.records.specs.declared.source.Source.{Source}
use Rattle.tree.specs.Layout.{Forest, none, next, flat, Below, Lawful}
use Rattle.definition.specs.Converters.{ident_record, converter_records}
use Rattle.definition.specs.Grammar.{kind_of, counts, same_kind, definition_rules}
use Rattle.definition.specs.Lawful.{IsTreeOf}
use Rattle.definition.specs.declared.converter.Converter.{Converter}
use Rattle.definition.specs.declared.converter.Ident.{Ident}
use Rattle.definition.specs.declared.grammar.Kind.TheVariants as kind

-- more trees than it may stand over do not stand below a record
crowded : (r : Source) (n after : ℕ) (f : Forest Source) → ((m : ℕ) → counts 0 r.node m ≡ true → m ≡ n) → n < after → Below definition_rules r after f → ⊥
crowded r n after none only more below = omega (arith, only after below)
crowded r n after (next f c g) only more (takes, below) = crowded r n (after + 1) f only (omega arith) below

is_ident : (n : Node) → same_kind (kind_of n) kind.Ident ≡ true → (name : Name) × (n ≡ node.Ident name)
is_ident (node.Ident name) t = (name, refl)
is_ident (node.Pattern p) t = absurd (false≢true t)
is_ident (node.Expr x) t = absurd (false≢true t)
is_ident (node.LetDef var ty) t = absurd (false≢true t)
is_ident node.IfLet t = absurd (false≢true t)
is_ident (node.Rule prio name) t = absurd (false≢true t)
is_ident node.Converter t = absurd (false≢true t)

is_converter : (n : Node) → kind_of n ≡ kind.Converter → n ≡ node.Converter
is_converter n e = grind arith

-- a record of kind ident is a placed name, and has nothing below it
leaf : (r : Source) (g : Forest Source) → same_kind (kind_of r.node) kind.Ident ≡ true → Lawful definition_rules (next none r g) → (i : Ident) × (flat (next none r g) ≡ ident_record i ∷ [])
leaf r none t (lf, lg, long, below) =
    let (name, e) = is_ident r.node t in
    (record { name = name; pos = r.pos }, λ j. record { node = e j; size = long j; pos = r.pos } ∷ [])
leaf r (next f c g) t (lf, lg, long, (takes, below)) =
    let (name, e) = is_ident r.node t in
    absurd (crowded r 0 1 f (λ m h. eqb-true m 0 (rw e at h)) (omega arith) below)

-- three placed names stand below a converter
three : (r : Source) (g : Forest Source) → r.node ≡ node.Converter → Lawful definition_rules (next none r g) → (c : Converter) × (flat (next none r g) ≡ converter_records c)
three r none e (lf, lg, long, below) = absurd (false≢true (rw e at below))
three r (next none o d) e (lf, lg, long, (ko, below)) = absurd (false≢true (rw e at below))
three r (next (next none i b) o d) e (lf, lg, long, (ko, (ki, below))) = absurd (false≢true (rw e at below))
three r (next (next (next none t a) i b) o d) e (lf, (((lu, la, st, bt), lb, si, bi), ld, so, bo), long, (ko, (ki, (kt, may)))) =
    let (term, et) = leaf t a (rw e at kt) (tt, la, st, bt) in
    let (inner, ei) = leaf i b (rw e at ki) (tt, lb, si, bi) in
    let (outer, eo) = leaf o d (rw e at ko) (tt, ld, so, bo) in
    let below : flat (next (next (next none t a) i b) o d) ≡ ident_record term ∷ ident_record inner ∷ ident_record outer ∷ [] = λ j. (et j ++ ei j) ++ eo j in
    let size = long ∙ ap (λ xs. length xs + 1) below in
    (record { term = term; inner_ty = inner; outer_ty = outer; pos = r.pos }, λ j. below j ++ record { node = e j; size = size j; pos = r.pos } ∷ [])
three r (next (next (next (next f s x) t a) i b) o d) e (lf, lg, long, (ko, (ki, (kt, (ks, below))))) =
    absurd (crowded r 3 4 f (λ m h. eqb-true m 3 (rw e at h)) (omega arith) below)

-- a lawful converter tree is written by the records of a converter definition
pub shape : (xs : List Source) → IsTreeOf kind.Converter xs → (c : Converter) × (xs ≡ converter_records c)
shape xs (r, g, laid, lawful, kind) =
    let (c, e) = three r g (is_converter r.node kind) lawful in
    (c, laid ∙ e)
