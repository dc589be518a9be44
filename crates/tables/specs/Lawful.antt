-- Which tables are lawful: what each record has to keep, and which record is named where one does not.
use Rattle.std.specs.Prelude.{◌≡◌, ℕ, zero, suc, ◌<◌, ◌≤◌, List, [], ◌∷◌, map, length, Some, None, vec_items, Option, slice_index_or}
use Rattle.std.specs.List.{AllByRecursion, slice_get}
use Rattle.tree.specs.Layout.{IsTree}
use Rattle.records.specs.Numbers.{table_number}
use Rattle.records.specs.declared.env.Constant.{Constant}
use Rattle.records.specs.declared.env.ExtractorKind.{ExtractorKind}
use Rattle.records.specs.declared.env.ExtractorKind.TheVariants as extractor
use Rattle.records.specs.declared.env.Symbol.{Symbol}
use Rattle.records.specs.declared.env.Term.{Term}
use Rattle.records.specs.declared.env.TermKind.{TermKind}
use Rattle.records.specs.declared.env.TermKind.TheVariants as term
use Rattle.records.specs.declared.env.«Type».{«Type» as Ty}
use Rattle.records.specs.declared.env.TypeKind.TheVariants as type_kind
use Rattle.records.specs.declared.ids.Sym.{Sym}
use Rattle.records.specs.declared.ids.TypeId.{TypeId}
use Rattle.records.specs.declared.refusal.Refusal.{Refusal}
use Rattle.records.specs.declared.refusal.Refusal.TheVariants as refusal
use Rattle.records.specs.declared.refusal.TableId.{TableId}
use Rattle.records.specs.declared.refusal.TableId.TheVariants as table
use Rattle.records.specs.declared.source.Expr.{Expr}
use Rattle.records.specs.declared.source.Expr.TheVariants as expr
use Rattle.records.specs.declared.source.Name.{Name}
use Rattle.records.specs.declared.source.Node.{Node}
use Rattle.records.specs.declared.source.Node.TheVariants as node
use Rattle.records.specs.declared.source.Part.{Part}
use Rattle.records.specs.declared.source.Pattern.{Pattern}
use Rattle.records.specs.declared.source.Pattern.TheVariants as pattern
use Rattle.records.specs.declared.source.Source.{Source}
use Rattle.records.specs.Parts.{bytes, slice}
use Rattle.tables.specs.Names.{Inside, New, builtin_names}
use Rattle.tables.specs.Template.{template_rules}
use Rattle.tables.specs.Tables.{Env}

-- what holds of the i-th item, if there is one
abbrev pub IfAt : {X : Type 0} → List X → ℕ → (X → Type 0) → Type 0
IfAt {X} xs i P = (x : X) → slice_get xs i ≡ Some x → P x

-- built-in type i is named by symbol i; the first is bool, the others are integers
abbrev pub builtin_type : ℕ → Ty
builtin_type zero = record { name = record { 0 = zero }; kind = type_kind.Bool }
builtin_type (suc i) = record { name = record { 0 = suc i }; kind = type_kind.Int }

-- the template of a term that has one
abbrev pub extractor_template : Option ExtractorKind → Option Part
extractor_template None = None
extractor_template (Some extractor.External) = None
extractor_template (Some (extractor.Internal template)) = Some template

abbrev pub template_of : TermKind → Option Part
template_of term.EnumVariant = None
template_of term.Struct = None
template_of (term.Decl flags constructor' extractor') = extractor_template extractor'

abbrev pub pattern_names : Pattern → List Name
pattern_names (pattern.Var var) = var ∷ []
pattern_names (pattern.BindPattern var) = var ∷ []
pattern_names (pattern.ConstBool val) = []
pattern_names (pattern.ConstInt val) = []
pattern_names (pattern.ConstPrim val) = val ∷ []
pattern_names (pattern.Term sym) = sym ∷ []
pattern_names pattern.Wildcard = []
pattern_names pattern.And = []
pattern_names (pattern.MacroArg index) = []

abbrev pub expr_names : Expr → List Name
expr_names (expr.Term sym) = sym ∷ []
expr_names (expr.Var name) = name ∷ []
expr_names (expr.ConstBool val) = []
expr_names (expr.ConstInt val) = []
expr_names (expr.ConstPrim val) = val ∷ []
expr_names expr.Let = []

abbrev pub option_names : Option Name → List Name
option_names None = []
option_names (Some name) = name ∷ []

-- the names that a source record holds itself
abbrev pub node_names : Node → List Name
node_names (node.Pattern p) = pattern_names p
node_names (node.Expr e) = expr_names e
node_names (node.LetDef var ty) = var ∷ ty ∷ []
node_names node.IfLet = []
node_names (node.Rule prio name) = option_names name
node_names (node.Ident name) = name ∷ []
node_names node.Converter = []

module _ (e : Env) where
  abbrev pub IsSymbol : Sym → Type 0
  IsSymbol s = s.0 < length e.symbols

  abbrev pub IsType : TypeId → Type 0
  IsType t = t.0 < length e.types

  -- the bytes of the symbols
  abbrev pub names : List (List ℕ)
  names = map (λ s. bytes e.text s.name) e.symbols

  pub record TypeGood (i : ℕ) (t : Ty) : Type 0 where
    pub builtin : i < 13 → t ≡ builtin_type i
    pub named : IsSymbol t.name
    pub new : New (map (λ t. t.name) e.types) i

  pub record ConstantGood (i : ℕ) (c : Constant) : Type 0 where
    pub named : IsSymbol c.name
    pub typed : IsType c.ty
    pub new : New (map (λ c. c.name) e.constants) i

  -- a template is one pattern tree in the source list
  abbrev pub TemplateGood : ℕ → Option Part → Type 0
  TemplateGood arity None = Unit {0}
  TemplateGood arity (Some p) = (p.end ≤ length e.source) × IsTree (template_rules arity) (slice e.source p)

  pub record TermGood (i : ℕ) (t : Term) : Type 0 where
    pub named : IsSymbol t.name
    pub few : length (vec_items t.arg_tys) ≤ 16
    pub args : AllByRecursion IsType (vec_items t.arg_tys)
    pub ret : IsType t.ret_ty
    pub new : New (map (λ t. t.name) e.terms) i
    pub template : TemplateGood (length (vec_items t.arg_tys)) (template_of t.kind)

  abbrev pub SourceGood : Source → Type 0
  SourceGood s = AllByRecursion (Inside e.text) (node_names s.node)

  pub record SymbolGood (i : ℕ) (s : Symbol) : Type 0 where
    pub inside : Inside e.text s.name
    pub builtin : i < 13 → bytes e.text s.name ≡ slice_index_or builtin_names i []
    pub new : New names i

  -- What record i of a table has to keep. The built-in types and symbols have to be there.
  -- The text has no rules of its own, and the tables that elaboration writes are emptied.
  abbrev pub Keeps : TableId → ℕ → Type 0
  Keeps table.Text i = Unit {0}
  Keeps table.Types i = (i < 13 → i < length e.types) × IfAt e.types i (TypeGood i)
  Keeps table.Constants i = IfAt e.constants i (ConstantGood i)
  Keeps table.Rules i = Unit {0}
  Keeps table.Definitions i = Unit {0}
  Keeps table.Faults i = Unit {0}
  Keeps table.Terms i = IfAt e.terms i (TermGood i)
  Keeps table.Source i = IfAt e.source i SourceGood
  Keeps table.Output i = Unit {0}
  Keeps table.Symbols i = (i < 13 → i < length e.symbols) × IfAt e.symbols i (SymbolGood i)
  Keeps table.Converters i = Unit {0}
  Keeps table.Variables i = Unit {0}
  Keeps table.Scopes i = Unit {0}

  abbrev pub Lawful : Type 0
  Lawful = (t : TableId) (i : ℕ) → Keeps t i

  -- the first table that breaks a rule, and the first of its records that does
  pub record FirstBad (t : TableId) (i : ℕ) : Type 0 where
    pub tables : (s : TableId) → table_number s < table_number t → (j : ℕ) → Keeps s j
    pub records : (j : ℕ) → j < i → Keeps t j
    pub bad : Keeps t i → ⊥

  -- the refusal names the first bad record
  abbrev pub NamesFirstBad : Refusal → Type 0
  NamesFirstBad (refusal.UnlawfulTable t i) = FirstBad t i
  NamesFirstBad (refusal.UnlawfulDefinition i) = ⊥
  NamesFirstBad (refusal.TooDeep i) = ⊥
  NamesFirstBad (refusal.Full t) = ⊥
  NamesFirstBad (refusal.NoConverter t) = ⊥
  NamesFirstBad (refusal.NoRule r) = ⊥
  NamesFirstBad (refusal.NotSingle t) = ⊥
  NamesFirstBad (refusal.OtherSignature t) = ⊥
  NamesFirstBad (refusal.WrongArgument p) = ⊥
  NamesFirstBad (refusal.ShortList n) = ⊥
  NamesFirstBad (refusal.UnlawfulRow r) = ⊥
