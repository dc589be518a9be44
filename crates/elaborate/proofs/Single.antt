-- The converter call has one answer, and leaves one set of tables.
use Rattle.std.proofs.Common.{◌≡◌, sym, ap, ◌∙◌}
use Rattle.table.specs.Contents.{Outcome, refused}
use Rattle.records.specs.declared.refusal.Refusal.{Refusal}
use Rattle.records.specs.declared.refusal.Refusal.TheVariants as refusal
use Rattle.records.specs.declared.source.Part.{Part}
use Rattle.tables.specs.declared.Tables.{Tables}
use Rattle.definition.proofs.Single.{lawful_has_none, one_bad, is_definition, one_definition}
use Rattle.elaborate.specs.Converters.{convert, Converts, unlawful, lawful}

pub single : (p : Part) (v : Tables) (t u : Outcome Tables (Unit {0}) Refusal) → Converts p v t → Converts p v u → t ≡ u
single p v t u (unlawful i bad e) (unlawful j bad' e') = e ∙ ap (λ k. refused v (refusal.UnlawfulDefinition k)) (one_bad _ _ p i j bad bad') ∙ sym e'
single p v t u (unlawful i bad e) (lawful d written e') = absurd (lawful_has_none _ _ p (is_definition _ p d written) i bad)
single p v t u (lawful c written e) (unlawful j bad e') = absurd (lawful_has_none _ _ p (is_definition _ p c written) j bad)
single p v t u (lawful c written e) (lawful d written' e') = e ∙ ap (λ x. convert x v) (one_definition c d (sym written.1 ∙ written'.1)) ∙ sym e'
