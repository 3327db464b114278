-- The text of a legal mapping reads back as the mapping, where its numbers are within the limits of mapping files.
use Rattle.std.proofs.Common.{◌≡◌, ℕ, suc, ◌+◌, ◌<◌, ◌≤◌, ◌^◌, List, [], ◌∷◌, length, Some, Ok, refl, arith, lit<, IsUtf8}
use Rattle.std.specs.Prelude.{slice_get}
use Rattle.std.proofs.lemmas.Str.{IsUtf8-from_ascii}
use Rattle.json.proofs.Printed.Utf8.{IsUtf8-are_ascii}
use Rattle.serde_json.specs.View.{items_of}
use Rattle.cg_model.specs.Limits.{latest_time}
use Rattle.cg_model.specs.Array.{Arch, IsArch}
use Rattle.cg_model.specs.Kernel.{Kernel, IsKernel, size}
use Rattle.cg_model.specs.Mapping.{Mapping, IsLegal}
use Rattle.cg_model.specs.declared.mapping.Place.{Place}
use Rattle.cg_model.specs.declared.mapping.Route.{Route}
use Rattle.cg_json.specs.Plain.{IsPlain, ArePlain}
use Rattle.cg_json.proofs.Items.{ArePlain-map}
use Rattle.cg_json.proofs.Back.{reads_back}
use Rattle.cg_kernel_text.proofs.Plain.{name_utf8}
use Rattle.cg_netlist.proofs.Letters.{plain_ascii}
use Rattle.cg_netlist.proofs.Valid.{unit_plain, resource_plain}
use Rattle.cg_mapping.specs.Answer.{answer_of}
use Rattle.cg_mapping.specs.Limits.{greatest_interval}
use Rattle.cg_mapping.specs.Sound.{IsWithinLimits}
use Rattle.cg_mapping.specs.Printed.{unit_name, resource_name, places_data, step_data, route_data, data_of}
use Rattle.cg_mapping.proofs.Back.{answer-back}
use Rattle.cg_mapping.proofs.Depths.{data_of-depth}
use Rattle.cg_command_map.specs.Searches.{mapping_text}
use Rattle.cg_command_map.proofs.Named.{names_parts, few_args, node_known}

module _ (A : Arch) (K : Kernel) (M : Mapping) (arch : IsArch A) (kernel : IsKernel K) (legal : IsLegal A K M) (limits : IsWithinLimits M) where
  unit_utf8 : (x : ℕ) → x < length A.units → IsUtf8 (unit_name A.units x)
  unit_utf8 x here = IsUtf8-from_ascii _ (plain_ascii _ (unit_plain A arch x here))

  resource_utf8 : (r : ℕ) → r < length A.resources → IsUtf8 (resource_name A.resources r)
  resource_utf8 r here = IsUtf8-from_ascii _ (plain_ascii _ (resource_plain A arch r here))

  small : (n m : ℕ) → n ≤ m → m < 2 ^ 64 → n < 2 ^ 64
  small n m h k = omega (arith, h, k)

  -- the places of the nodes from v on
  places : (v : ℕ) (ps : List Place) → v + length ps ≤ size K → ((i : ℕ) (p : Place) → slice_get ps i ≡ Some p → p.unit < length A.units)
      → ((i : ℕ) (p : Place) → slice_get ps i ≡ Some p → p.time ≤ latest_time) → ArePlain (items_of (places_data K.nodes A.units v ps))
  places v [] few units times = tt
  places v (p ∷ ps) few units times = (
    (
      IsUtf8-are_ascii _ refl,
      name_utf8 K kernel v (omega (arith, few)),
      refl,
      (
        IsUtf8-are_ascii _ refl,
        small p.time latest_time (times 0 p refl) (lit< tt),
        refl,
        (IsUtf8-are_ascii _ refl, unit_utf8 p.unit (units 0 p refl), refl, tt),
      ),
    ),
    places (v + 1) ps (omega (arith, few)) (λ i q at. units (suc i) q at) (λ i q at. times (suc i) q at),
  )

  route : (i : ℕ) (r : Route) → slice_get M.routes i ≡ Some r → IsPlain (route_data K.nodes A.resources r)
  route i r at =
      let few = few_args A K M arch kernel legal i r at in
      let arg : r.arg ≤ 2 = omega (arith, few) in
      let names = names_parts A K M arch kernel legal in (
        IsUtf8-are_ascii _ refl,
        small r.arg 2 arg (lit< tt),
        refl,
        (
          IsUtf8-are_ascii _ refl,
          ArePlain-map (step_data A.resources) r.path (λ k s there. resource_utf8 s (names.paths i k s r at there)),
          refl,
          (IsUtf8-are_ascii _ refl, name_utf8 K kernel r.node (node_known A K M arch kernel legal i r at), refl, tt),
        ),
      )

  data_plain : IsPlain (data_of A K M)
  unfolding data_of
  data_plain =
      let names = names_parts A K M arch kernel legal in
      let many = legal.shape.places in (
        IsUtf8-are_ascii _ refl,
        IsUtf8-are_ascii _ refl,
        refl,
        (
          IsUtf8-are_ascii _ refl,
          small M.ii greatest_interval limits.interval (lit< tt),
          refl,
          (
            IsUtf8-are_ascii _ refl,
            places 0 M.places (omega (arith, many)) names.units limits.times,
            refl,
            (IsUtf8-are_ascii _ refl, ArePlain-map (route_data K.nodes A.resources) M.routes route, refl, tt),
          ),
        ),
      )

  pub answer-mapping_text : answer_of A K (mapping_text (record { arch = A; kernel = K; mapping = M })) ≡ Ok M
  answer-mapping_text =
      let text = reads_back (data_of A K M) data_plain in
      answer-back A K M (record { arch = arch; kernel = kernel; shape = legal.shape; parts = names_parts A K M arch kernel legal; limits = limits })
      (mapping_text (record { arch = A; kernel = K; mapping = M })) text.utf8 (text.back (data_of-depth A K M))
