-- Parts of lists, as far as the list goes.
use Rattle.std.specs.Prelude.{ℕ, ◌-◌, List, take, drop}
use Rattle.records.specs.declared.source.Name.{Name}
use Rattle.records.specs.declared.source.Part.{Part}

abbrev pub bytes : List ℕ → Name → List ℕ
bytes text n = take n.len (drop n.start text)

abbrev pub slice : {X : Type 0} → List X → Part → List X
slice xs p = take (p.end - p.start) (drop p.start xs)
