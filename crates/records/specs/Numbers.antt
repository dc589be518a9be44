-- The numbers by which tables, causes of faults and refusals are known, and what a refusal returns.
use Rattle.std.specs.Prelude.{ℕ, List, [], ◌∷◌, ◌++◌, Some, None, codes, decimal}
use Rattle.records.specs.declared.refusal.TableId.{TableId}
use Rattle.records.specs.declared.refusal.TableId.TheVariants as table
use Rattle.records.specs.declared.refusal.Refusal.{Refusal}
use Rattle.records.specs.declared.refusal.Refusal.TheVariants as refusal
use Rattle.records.specs.declared.refusal.Report.{Report}
use Rattle.records.specs.declared.refusal.Values.{Values}
use Rattle.records.specs.declared.refusal.Values.TheVariants.{One, Two}
use Rattle.records.specs.declared.fault.Cause.{Cause}
use Rattle.records.specs.declared.fault.Cause.TheVariants as cause

abbrev pub table_number : TableId → ℕ
table_number table.Text = 0
table_number table.Types = 1
table_number table.Constants = 2
table_number table.Rules = 3
table_number table.Definitions = 4
table_number table.Faults = 5
table_number table.Terms = 6
table_number table.Source = 7
table_number table.Output = 8
table_number table.Symbols = 9
table_number table.Converters = 10
table_number table.Variables = 11
table_number table.Scopes = 12

-- all tables, each at its number
abbrev pub tables : List TableId
tables =
    table.Text ∷ table.Types ∷ table.Constants ∷ table.Rules ∷ table.Definitions ∷ table.Faults ∷ table.Terms ∷ table.Source ∷ table.Output ∷ table.Symbols ∷ table.Converters
    ∷ table.Variables ∷ table.Scopes ∷ []

abbrev pub cause_number : Cause → ℕ
cause_number (cause.UnknownInnerType name) = 101
cause_number (cause.UnknownOuterType name) = 102
cause_number (cause.UnknownConverterTerm name) = 103
cause_number (cause.DuplicateConverter inner outer) = 104
cause_number (cause.ArgumentCount term got expected) = 105
cause_number cause.RootNotTerm = 106
cause_number cause.UnknownRootTerm = 107
cause_number cause.RootNotDeclared = 108
cause_number cause.PriorityOfMulti = 109
cause_number (cause.DuplicateRuleName name) = 110
cause_number (cause.NoConstructor term) = 111
cause_number (cause.PatternIntType ty val) = 112
cause_number (cause.PatternBoolType val ty) = 113
cause_number cause.PatternUnknownConst = 114
cause_number cause.PatternConstType = 115
cause_number (cause.ReboundVariable var) = 116
cause_number (cause.PatternVarType expected var found) = 117
cause_number (cause.PatternUnknownTerm term) = 118
cause_number (cause.PatternTermType expected found) = 119
cause_number (cause.NoExtractor term) = 120
cause_number (cause.ExprTermIsVariable term) = 121
cause_number (cause.ExprUnknownTerm term) = 122
cause_number (cause.ExprTermType expected found) = 123
cause_number (cause.NotPure term) = 124
cause_number (cause.MultiInSingle term) = 125
cause_number (cause.PartialOnRight term root_multi) = 126
cause_number (cause.ExprUnknownVar var) = 127
cause_number (cause.ExprVarType var found expected) = 128
cause_number (cause.ExprBoolType val ty) = 129
cause_number cause.ExprIntUntyped = 130
cause_number (cause.ExprIntType ty val) = 131
cause_number cause.ExprUnknownConst = 132
cause_number (cause.ExprConstType val expected found) = 133
cause_number (cause.LetUnknownType ty var) = 134

-- a refusal's number, and the values that it returns
abbrev pub reported : ℕ → Values → Report
reported n vs = record { number = n; values = vs }

abbrev pub report_of : Refusal → Report
report_of (refusal.UnlawfulTable table record') = reported 1 (Two (table_number table) record')
report_of (refusal.UnlawfulDefinition record') = reported 2 (One record')
report_of (refusal.TooDeep record') = reported 3 (One record')
report_of (refusal.Full table) = reported 4 (One (table_number table))
report_of (refusal.NoConverter term) = reported 5 (One term.0)
report_of (refusal.NoRule rule) = reported 6 (One rule.0)
report_of (refusal.NotSingle None) = reported 7 (One 65535)
report_of (refusal.NotSingle (Some term)) = reported 7 (One term.0)
report_of (refusal.OtherSignature term) = reported 8 (One term.0)
report_of (refusal.WrongArgument position) = reported 9 (One position)
report_of (refusal.ShortList len) = reported 10 (One len)
report_of (refusal.UnlawfulRow row) = reported 11 (One row)

-- what is printed of a refusal: its number, and the values in words
abbrev pub report_text : ℕ → Values → List ℕ
report_text number (One value) = decimal number ++ (codes ", " ++ decimal value)
report_text number (Two table record') = decimal number ++ (codes ", table " ++ (decimal table ++ (codes ", record " ++ decimal record')))

abbrev pub refusal_text : Refusal → List ℕ
refusal_text r = report_text (report_of r).number (report_of r).values
