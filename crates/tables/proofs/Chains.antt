-- How an answer follows a chain of steps: `then` past a step that was done, `stop` at one that was refused, `fails` at the exit of a `?`.
use Rattle.std.proofs.Common.{◌≡◌, IsErrAnd, Ok, Err, Result, ap, ◌∙◌}
use Rattle.records.specs.declared.refusal.Refusal.{Refusal}
use Rattle.table.specs.Contents.{Outcome, done, refused, outcome}
use Rattle.tables.specs.Steps.{Step, after, ◌>>=◌}
use Rattle.tables.specs.declared.Tables.{Tables}

pub then : {A B : Type 0} (m : Step A) (k : A → Step B) (v : Tables) {w : Tables} {a : A} {z : Outcome Tables B Refusal} → done w a ≡ m v → z ≡ k a w → z ≡ ◌>>=◌ m k v
unfolding ◌>>=◌
then m k v e h = h ∙ ap (λ t. after t k) e

pub stop : {A B : Type 0} (m : Step A) (k : A → Step B) (v : Tables) {w : Tables} {x : Refusal} → refused w x ≡ m v → refused w x ≡ ◌>>=◌ m k v
unfolding ◌>>=◌
stop m k v e = ap (λ t. after t k) e

pub fails : {B : Type 0} {v : Tables} {x : Refusal} {z : Outcome Tables B Refusal} (r : Result B Refusal) → IsErrAnd r (λ y. y ≡ x) → refused v x ≡ z → outcome v r ≡ z
fails (Ok b) e h = absurd e
fails {v = v} (Err y) e h = ap (λ u. refused v u) e ∙ h
