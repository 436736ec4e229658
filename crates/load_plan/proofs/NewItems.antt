-- The items of new modules.
use Rattle.std.proofs.Common.{◌*◌, ◌<◌, ◌≤◌, List, [], ◌∷◌, length, length-append, arith, All}
use Rattle.std.proofs.lemmas.List.Elements.{All-nil, All-head, All-tail, All-append}
use Rattle.elf_model.specs.Sound.{IsSound}
use Rattle.placement.specs.declared.item.Item.{Item}
use Rattle.placement.specs.Space.{IsOwned}
use Rattle.load_image.proofs.ModuleItems.{items_owned, items_sized, length-items_of}
use Rattle.load_model.specs.declared.module.Joining.{Joining}
use Rattle.load_model.specs.declared.plan.PlaceLine.{PlaceLine}
use Rattle.load_model.specs.Plan.{listed_for}
use Rattle.load_state.specs.Accepted.{all_items, items_for}

abbrev IsSomeSize : Item → Type 0
IsSomeSize item = 0 < item.memsz

pub all_owned : (places : List PlaceLine) (joining : List Joining) → All (λ j. j.number < 64) joining → All IsOwned (all_items places joining)
all_owned places [] small = All-nil IsOwned
all_owned places (j ∷ joining) small =
    let lt : j.number < 64 = All-head (λ (i : Joining). i.number < 64) j joining small in
    All-append IsOwned (items_for places j) (all_items places joining)
    (items_owned j.number j.object.segments (listed_for places j.name) (omega (arith, lt)))
    (all_owned places joining (All-tail (λ (i : Joining). i.number < 64) j joining small))

pub all_sized : (places : List PlaceLine) (joining : List Joining) → All (λ j. IsSound j.object) joining → All (λ item. 0 < item.memsz) (all_items places joining)
all_sized places [] sound = All-nil IsSomeSize
all_sized places (j ∷ joining) sound =
    All-append IsSomeSize (items_for places j) (all_items places joining)
    (items_sized j.number j.object.segments (listed_for places j.name) (All-head (λ (i : Joining). IsSound i.object) j joining sound).sized)
    (all_sized places joining (All-tail (λ (i : Joining). IsSound i.object) j joining sound))

pub all_few : (places : List PlaceLine) (joining : List Joining) → All (λ j. IsSound j.object) joining → length (all_items places joining) ≤ 8 * length joining
all_few places [] sound = omega arith
all_few places (j ∷ joining) sound =
    let here = length-items_of j.number j.object.segments (listed_for places j.name) in
    let few = (All-head (λ (i : Joining). IsSound i.object) j joining sound).few in
    let rest = all_few places joining (All-tail (λ (i : Joining). IsSound i.object) j joining sound) in
    let both = length-append (items_for places j) (all_items places joining) in
    omega (arith, here, few, rest, both)
