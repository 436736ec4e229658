-- What holds of a module's items.
use Rattle.std.proofs.Common.{◌≡◌, ℕ, ◌^◌, ◌<◌, List, [], ◌∷◌, length, Option, Some, None, refl, arith, All}
use Rattle.std.specs.List.{AllZip}
use Rattle.std.proofs.lemmas.List.Elements.{All-nil, All-cons, All-head, All-tail}
use Rattle.load_map.specs.declared.entry.MapEntry.{MapEntry}
use Rattle.elf_model.specs.declared.object.Segment.{Segment}
use Rattle.elf_model.specs.Sound.{IsSized}
use Rattle.placement.specs.declared.item.Item.{Item}
use Rattle.placement.specs.Space.{IsOwned}
use Rattle.placement.specs.Placed.{LiesWithin}
use Rattle.load_image.specs.parts.Bounds.{IsMapOf}
use Rattle.load_map.specs.parts.IsLoadMap.{EndsBelow}
use Rattle.load_image.specs.Items.{items_of, item_of, load_map_of}

pub length-items_of : (owner : ℕ) (ss : List Segment) (listed : List ℕ) → length (items_of owner ss listed) ≡ length ss
length-items_of owner [] listed = refl
length-items_of owner (s ∷ ss) [] = omega (arith, length-items_of owner ss [])
length-items_of owner (s ∷ ss) (at ∷ listed) = omega (arith, length-items_of owner ss listed)

-- what holds of the item of each segment, wherever it is listed, holds of all
each_item : (P : Item → Type 0) (owner : ℕ) (ss : List Segment) (listed : List ℕ) → All (λ (s : Segment). (at : Option ℕ) → P (item_of owner s at)) ss → All P (items_of owner ss listed)
each_item P owner [] listed all = All-nil P
each_item P owner (s ∷ ss) [] all =
    let Each : Segment → Type 0 = λ t. (at : Option ℕ) → P (item_of owner t at) in
    All-cons P (item_of owner s None) (items_of owner ss []) (All-head Each s ss all None) (each_item P owner ss [] (All-tail Each s ss all))
each_item P owner (s ∷ ss) (at ∷ listed) all =
    let Each : Segment → Type 0 = λ t. (at : Option ℕ) → P (item_of owner t at) in
    All-cons P (item_of owner s (Some at)) (items_of owner ss listed) (All-head Each s ss all (Some at)) (each_item P owner ss listed (All-tail Each s ss all))

pub items_owned : (owner : ℕ) (ss : List Segment) (listed : List ℕ) → owner < 512 → All IsOwned (items_of owner ss listed)
items_owned owner ss listed lt = each_item IsOwned owner ss listed (λ k d in' at. lt)

pub items_sized : (owner : ℕ) (ss : List Segment) (listed : List ℕ) → All IsSized ss → All (λ item. 0 < item.memsz) (items_of owner ss listed)
items_sized owner ss listed sized = each_item (λ item. 0 < item.memsz) owner ss listed (λ k d in' at. (sized k d in').some)

-- ---- the load map at the items' addresses

pub mapped : (ss : List Segment) (addrs : List ℕ) → length addrs ≡ length ss → IsMapOf ss (load_map_of ss addrs)
mapped [] addrs e = tt
mapped (s ∷ ss) [] e = absurd (omega arith)
mapped (s ∷ ss) (at ∷ addrs) e = ((refl, refl), mapped ss addrs (omega arith))

pub map_ends : (owner low high : ℕ) (ss : List Segment) (listed addrs : List ℕ) → high < 2 ^ 32
    → AllZip (LiesWithin low high) (items_of owner ss listed) addrs → All EndsBelow (load_map_of ss addrs)
map_ends owner low high [] listed addrs small all = All-nil EndsBelow
map_ends owner low high (s ∷ ss) [] [] small all = absurd all
map_ends owner low high (s ∷ ss) [] (at ∷ addrs) small all =
    let e : MapEntry = record { addr = at; vaddr = s.vaddr; memsz = s.memsz } in
    All-cons EndsBelow e (load_map_of ss addrs) (omega (arith, all.0.1)) (map_ends owner low high ss [] addrs small all.1)
map_ends owner low high (s ∷ ss) (x ∷ listed) [] small all = absurd all
map_ends owner low high (s ∷ ss) (x ∷ listed) (at ∷ addrs) small all =
    let e : MapEntry = record { addr = at; vaddr = s.vaddr; memsz = s.memsz } in
    All-cons EndsBelow e (load_map_of ss addrs) (omega (arith, all.0.1)) (map_ends owner low high ss listed addrs small all.1)
