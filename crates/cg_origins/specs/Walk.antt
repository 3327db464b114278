-- The walk back from a resource: its places and its steps.
use Rattle.std.specs.Prelude.{◌≡◌, ℕ, ◌-◌, ◌%◌, ◌<◌, ◌≤◌, nat_le, if◌then◌else◌, length, Option, ⊤}
use Rattle.cg_model.specs.Array.{Arch, resource}
use Rattle.cg_model.specs.Config.{Config, select}
use Rattle.cg_model.specs.Work.{Image}
use Rattle.cg_model.specs.Machine.{driver, word}
use Rattle.cg_origins.specs.Source.{IsFrom, IsReadable, most_delay}
use Rattle.cg_origins.specs.declared.linking.Place.{Place}
use Rattle.cg_origins.specs.declared.linking.Step.{Step}
use Rattle.cg_origins.specs.declared.linking.Step.TheVariants as step

-- the word on resource r, d cycles before cycle c; before the first cycle it is 0
abbrev pub word_back : Arch → Config → ℕ → Image → ℕ → ℕ → ℕ → ℕ
word_back A C n image r d c = if nat_le d c then word A C n image r (c - d) else 0

-- a resource in a slot, at most as many cycles ago as a result is kept
pub record IsPlace (A : Arch) (C : Config) (p : Place) : Type 0 where
  pub resource : p.resource < length A.resources
  pub slot : p.slot < C.ii
  pub delay : p.delay ≤ most_delay

-- the driver that the place's resource has in its slot
abbrev pub driver_at : Arch → Config → Place → Option ℕ
driver_at A C p = driver (resource A p.resource).drivers (select C p.resource p.slot)

-- in each cycle of the slot, whatever the run, the word on resource r is that of the place
pub record Reaches (A : Arch) (C : Config) (slot r : ℕ) (p : Place) : Type 0 where
  pub place : IsPlace A C p
  pub words : (n : ℕ) (image : Image) (c : ℕ) → c % C.ii ≡ slot →
      word A C n image r c ≡ word_back A C n image p.resource p.delay c
  pub slots : (c : ℕ) → c % C.ii ≡ slot → p.delay ≤ c → (c - p.delay) % C.ii ≡ p.slot

-- a step of a walk from resource r in the slot ends at a source, or leads to a place with the same word
abbrev pub LeadsTo : Arch → Config → ℕ → ℕ → Step → Type 0
LeadsTo A C slot r (step.Ends s) = IsFrom A C slot r s × IsReadable A C slot s
LeadsTo A C slot r (step.Further p) = Reaches A C slot r p
LeadsTo A C slot r step.TooFar = ⊤

-- a step from the place keeps the word of each walk that reaches it
abbrev pub IsStep : Arch → Config → Place → Step → Type 0
IsStep A C p s = (slot r : ℕ) → Reaches A C slot r p → LeadsTo A C slot r s
