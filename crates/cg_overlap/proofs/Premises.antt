-- The premises of the theorem hold of the rows' architectures, kernels and mappings, so the theorem speaks of them, for every number of turns.
use Rattle.std.proofs.Common.{ℕ, zero, suc, [], ◌∷◌, refl, arith}
use Rattle.cg_model.specs.Work.{Image}
use Rattle.cg_model.specs.Kernel.{IsKernel}
use Rattle.cg_model.specs.Order.{HasNoAccess}
use Rattle.cg_model.specs.Array.{IsArch, links, owner}
use Rattle.cg_model.specs.Mapping.{IsLegal, IsShaped, positions}
use Rattle.cg_model.specs.Canonical.{IsCanonical, any_below}
use Rattle.cg_model.specs.Configured.{configuration_of}
use Rattle.cg_model.specs.Overlap.{Follows, LeavesTheSame}
use Rattle.cg_model.proofs.Rows.{sum, fib, astray, swap, swap_unordered, odd, odd_inside, idle, eager}
use Rattle.cg_overlap.proofs.Canonical.{canonical}
use Rattle.cg_overlap.proofs.Overlap.{follows_alone, leaves_alone, leaves_the_same}
use Rattle.cg_overlap.proofs.Tests.{all_true, every, has, all_below}
use Rattle.cg_overlap.proofs.ArchTest.{arch_by}
use Rattle.cg_overlap.proofs.KernelTest.{kernel_by}
use Rattle.cg_overlap.proofs.LegalTest.{goes, legal_by}
use Rattle.cg_overlap.proofs.Aliases.{swap_unaliased, odd_inside_unaliased, swap_is, odd_inside_is}
use Rattle.cg_overlap.proofs.Rows.{t1, t2, t3, t4, t4g, t4l, pair, sum_on_t1, sum_in_two_stages, growing, growing_on_t3, late, held_shortly, double, doubled_by, apart, apart_on_t1, swap_on_t4, astray_on_t4, swap_on_pair, odd_on_t4g, odd_on_t4l}

-- ---- architectures, each with a level for each resource: ports stand above what drives them, a wire above its drivers

pub t1_is : IsArch t1
unfolding all_true every has all_below any_below links owner
t1_is = arch_by t1 (0 ∷ 1 ∷ 1 ∷ 0 ∷ []) refl

pub t2_is : IsArch t2
unfolding all_true every has all_below any_below links owner
t2_is = arch_by t2 (1 ∷ 1 ∷ 2 ∷ 3 ∷ 3 ∷ 0 ∷ []) refl

pub t3_is : IsArch t3
unfolding all_true every has all_below any_below links owner
t3_is = arch_by t3 (1 ∷ 1 ∷ 0 ∷ 1 ∷ 1 ∷ 0 ∷ []) refl

pub t4_is : IsArch t4
unfolding all_true every has all_below any_below links owner
t4_is = arch_by t4 (0 ∷ 0 ∷ 1 ∷ 1 ∷ 0 ∷ []) refl

pub t4g_is : IsArch t4g
unfolding all_true every has all_below any_below links owner
t4g_is = arch_by t4g (0 ∷ 0 ∷ 1 ∷ 1 ∷ 1 ∷ 0 ∷ []) refl

pub t4l_is : IsArch t4l
unfolding all_true every has all_below any_below links owner
t4l_is = arch_by t4l (0 ∷ 0 ∷ 1 ∷ 1 ∷ 1 ∷ 0 ∷ []) refl

pub pair_is : IsArch pair
unfolding all_true every has all_below any_below links owner
pair_is = arch_by pair (1 ∷ 1 ∷ 0 ∷ 1 ∷ 0 ∷ []) refl

-- ---- kernels

pub sum_is : IsKernel sum
unfolding all_true every all_below
sum_is = kernel_by sum refl

pub fib_is : IsKernel fib
unfolding all_true every all_below
fib_is = kernel_by fib refl

pub late_is : IsKernel late
unfolding all_true every all_below
late_is = kernel_by late refl

pub double_is : IsKernel double
unfolding all_true every all_below
double_is = kernel_by double refl

pub growing_is : IsKernel growing
unfolding all_true every all_below
growing_is = kernel_by growing refl

pub apart_is : IsKernel apart
unfolding all_true every all_below
apart_is = kernel_by apart refl

pub astray_is : IsKernel astray
unfolding all_true every all_below
astray_is = kernel_by astray refl

pub swap_unordered_is : IsKernel swap_unordered
unfolding all_true every all_below
swap_unordered_is = kernel_by swap_unordered refl

pub odd_is : IsKernel odd
unfolding all_true every all_below
odd_is = kernel_by odd refl

pub idle_is : IsKernel idle
unfolding all_true every all_below
idle_is = kernel_by idle refl

pub eager_is : IsKernel eager
unfolding all_true every all_below
eager_is = kernel_by eager refl

-- ---- mappings

pub sum_shaped : IsShaped sum sum_on_t1
sum_shaped = record { places = refl; routes = refl }

pub sum_legal : IsLegal t1 sum sum_on_t1
unfolding all_true every has all_below goes positions
sum_legal = legal_by t1 sum sum_on_t1 sum_shaped refl

-- the register's value goes to an argument of the sum and to the output
pub two_stages_legal : IsLegal t1 sum sum_in_two_stages
unfolding all_true every has all_below goes positions
two_stages_legal = legal_by t1 sum sum_in_two_stages (record { places = refl; routes = refl }) refl

pub growing_legal : IsLegal t3 growing growing_on_t3
unfolding all_true every has all_below goes positions
growing_legal = legal_by t3 growing growing_on_t3 (record { places = refl; routes = refl }) refl

pub held_shortly_legal : IsLegal t1 late held_shortly
unfolding all_true every has all_below goes positions
held_shortly_legal = legal_by t1 late held_shortly (record { places = refl; routes = refl }) refl

-- both operands by the first wire
pub one_way_legal : IsLegal t2 double (doubled_by 0)
unfolding all_true every has all_below goes positions
one_way_legal = legal_by t2 double (doubled_by 0) (record { places = refl; routes = refl }) refl

pub apart_legal : IsLegal t1 apart apart_on_t1
unfolding all_true every has all_below goes positions
apart_legal = legal_by t1 apart apart_on_t1 (record { places = refl; routes = refl }) refl

pub swap_shaped : IsShaped swap swap_on_t4
swap_shaped = record { places = refl; routes = refl }

pub swap_legal : IsLegal t4 swap swap_on_t4
unfolding all_true every has all_below goes positions
swap_legal = legal_by t4 swap swap_on_t4 swap_shaped refl

pub astray_legal : IsLegal t4 astray astray_on_t4
unfolding all_true every has all_below goes positions
astray_legal = legal_by t4 astray astray_on_t4 (record { places = refl; routes = refl }) refl

pub swap_on_pair_legal : IsLegal pair swap_unordered swap_on_pair
unfolding all_true every has all_below goes positions
swap_on_pair_legal = legal_by pair swap_unordered swap_on_pair (record { places = refl; routes = refl }) refl

pub odd_inside_shaped : IsShaped odd_inside odd_on_t4g
odd_inside_shaped = record { places = refl; routes = refl }

pub odd_inside_legal : IsLegal t4g odd_inside odd_on_t4g
unfolding all_true every has all_below goes positions
odd_inside_legal = legal_by t4g odd_inside odd_on_t4g odd_inside_shaped refl

pub odd_legal : IsLegal t4l odd odd_on_t4l
unfolding all_true every has all_below goes positions
odd_legal = legal_by t4l odd odd_on_t4l (record { places = refl; routes = refl }) refl

-- ---- the theorem on them

sum_alone : HasNoAccess sum
sum_alone zero l = refl
sum_alone (suc zero) l = refl
sum_alone (suc (suc zero)) l = refl
sum_alone (suc (suc (suc v))) l = absurd (omega arith)

-- the array sums as the turns do, for ever
pub sum_left : (n : ℕ) (image : Image) → LeavesTheSame t1 sum sum_on_t1 n image
sum_left n image = leaves_alone t1 sum sum_on_t1 n image t1_is sum_is sum_legal sum_alone

pub sum_follows : (n : ℕ) (image : Image) → Follows t1 sum sum_on_t1 n image
sum_follows n image = follows_alone t1 sum sum_on_t1 n image t1_is sum_is sum_legal sum_alone

pub sum_canonical : IsCanonical t1 (configuration_of t1 sum sum_on_t1)
sum_canonical = canonical t1 sum sum_on_t1 sum_is sum_legal refl

-- the load and the store of one word, on every image
pub swap_left : (n : ℕ) (image : Image) → LeavesTheSame t4 swap swap_on_t4 n image
swap_left n image = leaves_the_same t4 swap swap_on_t4 n image t4_is swap_is swap_legal (swap_unaliased n image)

-- and the guarded store
pub odd_inside_left : (n : ℕ) (image : Image) → LeavesTheSame t4g odd_inside odd_on_t4g n image
odd_inside_left n image = leaves_the_same t4g odd_inside odd_on_t4g n image t4g_is odd_inside_is odd_inside_legal (odd_inside_unaliased n image)
