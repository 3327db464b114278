-- The search for least paths: by layers of time, backward from the end.
use Rattle.std.specs.Prelude.{◌≡◌, ℕ, zero, suc, ◌+◌, ◌-◌, ◌*◌, ◌%◌, ◌^◌, ◌<◌, ◌≤◌, ◌⊎◌, ◌&&◌, ◌||◌, true, false, eqb, nat_lt, if◌then◌else◌, Bool, List, [], ◌∷◌, length, map, Contains, Option, Some, None, slice_index_or, slice_set}
use Rattle.std.specs.List.{list_any, range_with_len}
use Rattle.cg_model.specs.Array.{Arch, IsArch, resource, delay}
use Rattle.cg_levelize.specs.Topological.{IsTopological}
use Rattle.cg_model.specs.Mapping.{Position}
use Rattle.cg_congestion.specs.Claims.{same}
use Rattle.cg_congestion.specs.Table.{Table, toll, link_price}
pub use Rattle.cg_route.specs.declared.step.Step.{Step}
pub use Rattle.cg_route.specs.declared.step.Way.{Way}

-- the problem: the ways of the value of `source` from a resource to another at a time; and an order of the resources in
-- which each comes after those that drive it without delay
pub record Sought : Type 0 where
  pub table : Table
  pub order : List ℕ
  pub source : ℕ
  pub from : ℕ
  pub to : ℕ
  pub end : ℕ

-- the number of resources
abbrev pub size : Sought → ℕ
size S = length S.table.arch.resources

-- the delay of a link into r
abbrev pub delay_into : Sought → ℕ → ℕ
delay_into S r = delay S.table.arch r

pub record IsSearch (S : Sought) : Type 0 where
  pub arch : IsArch S.table.arch
  pub interval : (0 < S.table.interval) × (S.table.interval ≤ 64)
  pub order : IsTopological S.table.arch.resources S.order
  pub to : S.to < size S

-- the index of q in a list
unfoldable pub place_of : ℕ → List ℕ → ℕ
place_of q [] = 0
place_of q (x ∷ xs) = if eqb x q then 0 else suc (place_of q xs)

-- the index of q in the order
abbrev pub rank : Sought → ℕ → ℕ
rank S q = place_of q S.order

-- the drivers of r
abbrev pub drivers : Sought → ℕ → List ℕ
drivers S r = (resource S.table.arch r).drivers

-- q drives r
abbrev pub Drives : Sought → ℕ → ℕ → Type 0
Drives S q r = Contains (drivers S r) q

-- a path may meet q: it begins there, or another resource drives it
abbrev pub IsOpen : Sought → ℕ → Type 0
IsOpen S q = (q < size S) × ((q ≡ S.from) ⊎ (0 < length (drivers S q)))

-- the resources that are open
pub record AreOpen (A : Arch) (from : ℕ) (met : List Bool) : Type 0 where
  pub each : length met ≡ length A.resources
  pub right : (q : ℕ) → q < length A.resources → slice_index_or met q false ≡ (nat_lt 0 (length (resource A q).drivers) || eqb q from)

-- a layer has for each open resource the least price from there to the end, and the next resource
abbrev pub Layer : Type 0
Layer = List (Option Step)

-- layer k of a list, that of the time k cycles before the end
abbrev pub layer_at : List Layer → ℕ → Layer
layer_at layers k = slice_index_or layers k []

-- the layer of the next cycle
abbrev pub later_at : List Layer → ℕ → Layer
later_at layers zero = []
later_at layers (suc k) = layer_at layers k

abbrev pub at : Layer → ℕ → Option Step
at layer q = slice_index_or layer q None

-- the way on from r: into a register it continues a cycle later
abbrev pub onward : Sought → Layer → Layer → ℕ → Option Step
onward S here later r = if eqb (delay_into S r) 0 then at here r else at later r

-- the price of the link from q to r, which ends at time s
abbrev pub link : Sought → ℕ → ℕ → ℕ → ℕ
link S s r q = link_price S.table (record { source = S.source; resource = r; time = s; from = Some q })

-- the price of the link to r along which the value leaves q at time t
abbrev pub cost : Sought → ℕ → ℕ → ℕ → ℕ
cost S q t r = link S (t + delay_into S r) r q

-- the better of what was found and of going to r for that price
abbrev pub better : Option Step → ℕ → ℕ → Option Step
better None price r = Some (record { price = price; next = r })
better (Some s) price r =
    if nat_lt price s.price || (eqb price s.price && nat_lt r s.next)
    then Some (record { price = price; next = r })
    else Some s

-- a price above that of any way
abbrev pub no_way : ℕ
no_way = 2 ^ 128 - 1

-- the way of the given price, if the price isn't that of no way
abbrev pub held : ℕ → ℕ → Option Step
held price r = if eqb price no_way then None else Some (record { price = price; next = r })

-- s goes to one of `IsUser`, for the least price, and among equal prices to the least number
pub record IsChoice (IsUser : ℕ → Type 0) (rest : ℕ → Option Step) (price : ℕ → ℕ) (s : Step) : Type 0 where
  pub next : IsUser s.next
  pub after : Step
  pub goes_on : rest s.next ≡ Some after
  pub is : s.price ≡ price s.next + after.price
  pub least : (r : ℕ) (o : Step) → IsUser r → rest r ≡ Some o →
      (s.price < price r + o.price) ⊎ ((s.price ≡ price r + o.price) × (s.next ≤ r))

-- the best way on, if there is one
abbrev pub IsBest : (ℕ → Type 0) → (ℕ → Option Step) → (ℕ → ℕ) → Option Step → Type 0
IsBest IsUser rest price None = (r : ℕ) → IsUser r → rest r ≡ None
IsBest IsUser rest price (Some s) = IsChoice IsUser rest price s

-- the entry of q in layer k, of time t; layer 0 is that of the end
pub record IsEntry (S : Sought) (k t q : ℕ) (rest : ℕ → Option Step) (e : Option Step) : Type 0 where
  pub at_end : q ≡ S.to → k ≡ 0 → e ≡ Some (record { price = 0; next = S.to })
  pub before : ((q ≡ S.to) × (k ≡ 0) → ⊥) → IsBest (Drives S q) rest (cost S q t) e

-- no price of the layer is above `high`
abbrev pub IsBelow : ℕ → Layer → Type 0
IsBelow high layer = (q : ℕ) (s : Step) → at layer q ≡ Some s → s.price ≤ high

-- no price is above that of `links` links
abbrev pub IsWithin : ℕ → Layer → Type 0
IsWithin links layer = IsBelow (links * 2 ^ 52) layer

pub record IsLayer (S : Sought) (k t : ℕ) (later here : Layer) : Type 0 where
  pub all : length here ≡ size S
  pub entries : (q : ℕ) → IsOpen S q → IsEntry S k t q (onward S here later) (at here q)

-- the layers of the last cycles
pub record AreLayers (S : Sought) (layers : List Layer) : Type 0 where
  pub each : (k t : ℕ) → k < length layers → k + t ≡ S.end → IsLayer S k t (later_at layers k) (layer_at layers k)

-- each of the drivers ds of r, but no other resource, was offered the way through r at time s for the given price
pub record AreOffered (S : Sought) (s r price : ℕ) (ds : List ℕ) (old new : Layer) : Type 0 where
  pub all : length new ≡ length old
  pub drivers : (q : ℕ) → list_any (eqb q) ds ≡ true → at new q ≡ better (at old q) (link S s r q + price) r
  pub others : (q : ℕ) → list_any (eqb q) ds ≡ false → at new q ≡ at old q

-- all drivers of r were offered the way
abbrev pub IsOffered : Sought → ℕ → ℕ → ℕ → Layer → Layer → Type 0
IsOffered S s r price old new = AreOffered S s r price (drivers S r) old new

-- the drivers of r were offered the way on from r, if there is one
abbrev pub IsPassed : Sought → ℕ → ℕ → Option Step → Layer → Layer → Type 0
IsPassed S s r None old new = new ≡ old
IsPassed S s r (Some o) old new = IsOffered S s r o.price old new

-- the way on through r, if a link ends on it at time s: its price from there on, that with the toll, and whether the
-- value is there already
abbrev pub way_of : Sought → ℕ → ℕ → Option Step → Option Way
way_of S s r None = None
way_of S s r (Some o) =
    Some (record {
      onward = o.price;
      through = toll S.table (record { resource = r; slot = s % S.table.interval }) + o.price;
      shared = list_any (λ (p : Position). eqb p.source S.source && eqb p.resource r && eqb p.time s) S.table.positions;
    })

-- the way on into r at time s, if r is a register
abbrev pub way_into : Sought → ℕ → Layer → ℕ → Option Way
way_into S s later r = if eqb (delay_into S r) 1 then way_of S s r (at later r) else None

-- the ways on through all registers
abbrev pub ways_of : Sought → ℕ → Layer → List (Option Way)
ways_of S s later = map (way_into S s later) (range_with_len 0 (size S))

-- its toll is at most 2 ^ 52, and its price from there on at most 2 ^ 127
abbrev pub IsCheap : Way → Type 0
IsCheap w = (w.onward ≤ 2 ^ 127) × (w.through ≤ w.onward + 2 ^ 52)

abbrev pub AreCheap : List (Option Way) → Type 0
AreCheap ways = (r : ℕ) (w : Way) → slice_index_or ways r None ≡ Some w → IsCheap w

-- its price for a driver: the toll is saved if the value already comes by the same link
abbrev pub way_price : Sought → ℕ → ℕ → ℕ → Way → ℕ
way_price S s r q w =
    if w.shared && list_any (same (record { source = S.source; resource = r; time = s; from = Some q })) S.table.positions then w.onward else w.through

-- the entry of r when it is visited in layer k, where `old` has the ways that were found before
abbrev pub entered : Sought → ℕ → ℕ → Layer → Layer
entered S k r old = if eqb k 0 && eqb r S.to then slice_set old r (Some (record { price = 0; next = r })) else old

-- r got its entry in layer k, and its drivers were offered the way through it, if links to it have no delay
abbrev pub IsVisited : Sought → ℕ → ℕ → Layer → Layer → Type 0
IsVisited S k r old new =
    (delay_into S r ≡ 0 → IsPassed S (S.end - k) r (at (entered S k r old) r) (entered S k r old) new) × (delay_into S r ≡ 1 → new ≡ entered S k r old)

-- at time t each open resource has its best way on through those of the first i resources that are registers
pub record IsBegun (S : Sought) (t i : ℕ) (later here : Layer) : Type 0 where
  pub all : length here ≡ size S
  pub each : (q : ℕ) → IsOpen S q →
      IsBest (λ x. Drives S q x × (delay_into S x ≡ 1) × (x < i)) (at later) (cost S q t) (at here q)

-- the open resources from index p of the order on have their entries; the others have their best way on through
-- registers and through those
pub record IsSettled (S : Sought) (k t p : ℕ) (later here : Layer) : Type 0 where
  pub all : length here ≡ size S
  pub entries : (q : ℕ) → IsOpen S q → p ≤ rank S q → IsEntry S k t q (onward S here later) (at here q)
  pub others : (q : ℕ) → IsOpen S q → rank S q < p →
      IsBest (λ x. Drives S q x × ((delay_into S x ≡ 1) ⊎ (p ≤ rank S x))) (onward S here later) (cost S q t) (at here q)

-- the path goes from q in layer k to the end, by the next resource of each entry
abbrev pub Follows : Sought → List Layer → ℕ → ℕ → List ℕ → Type 0
Follows S layers k q [] = (q ≡ S.to) × (k ≡ 0)
Follows S layers k q (x ∷ path) =
    ((q ≡ S.to) × (k ≡ 0) → ⊥) × (delay_into S x ≤ k) × (s : Step) × (at (layer_at layers k) q ≡ Some s) × (s.next ≡ x)
    × Follows S layers (k - delay_into S x) x path

-- each entry except that of the end continues to another entry
pub record Leads (S : Sought) (layers : List Layer) : Type 0 where
  pub onward : (k q : ℕ) (s : Step) → k < length layers → IsOpen S q → at (layer_at layers k) q ≡ Some s → ((q ≡ S.to) × (k ≡ 0) → ⊥) →
      Drives S q s.next × (delay_into S s.next ≤ k) × ((o : Step) × (at (layer_at layers (k - delay_into S s.next)) s.next ≡ Some o))
