-- The entries that a link leaves to the loader, where the loader finds them.
use Rattle.std.proofs.Common.{◌≡◌, ℕ, ◌⊎◌, inl, inr, Bool, true, false, cond, List, [], ◌∷◌, ◌++◌, map, Option, Some, None, refl, sym, ap, subst, ◌∙◌}
use Rattle.std.specs.Prelude.{nat_le, Contains, unwrap_or, flat_map}
use Rattle.std.proofs.lemmas.List.Elements.{Contains-append_left, Contains-append_right}
use Rattle.fd_base.proofs.Members.{contains_first, contains_later, first_or_later, flat_map_in, map_in, nothing_in}
use Rattle.elf_model.specs.declared.filled.FilledSite.{FilledSite}
use Rattle.elf_model.specs.declared.object.Object.{Object}
use Rattle.elf_model.specs.declared.object.Rel.{Rel}
use Rattle.elf_model.specs.declared.relocatable.RelObject.{RelObject}
use Rattle.elf_model.specs.Filled.{fixup_at, plain_site, slot_sites, sites_of}
use Rattle.link_model.specs.declared.input.Mode.{Mode}
use Rattle.link_model.specs.declared.need.Need.{Need}
use Rattle.link_model.specs.DynamicRels.{by_site, dynamic_rels, need_rels, put_by_site}
use Rattle.link_model.specs.Inputs.{InputRel, all_rels}
use Rattle.link_model.specs.Needs.{all_needs}
use Rattle.link_model.specs.Sites.{site_rels}
use Rattle.link_model.specs.Targets.{is_static}
use Rattle.link_means.specs.parts.Laws.{IsOutput}

-- ---- order

in_put : (r x : Rel) (xs : List Rel) → (r ≡ x) ⊎ Contains xs r → Contains (put_by_site x xs) r
in_put r x [] (inl is) = contains_first x r [] (sym is)
in_put r x [] (inr there) = absurd (nothing_in r there)
in_put r x (y ∷ ys) where' = by (nat_le x.site y.site) where' (λ h. in_put r x ys h)
  where
    by : (b : Bool) → (r ≡ x) ⊎ Contains (y ∷ ys) r → ((r ≡ x) ⊎ Contains ys r → Contains (put_by_site x ys) r) → Contains (cond b (x ∷ y ∷ ys) (y ∷ put_by_site x ys)) r
    by true (inl is) rest = contains_first x r (y ∷ ys) (sym is)
    by true (inr there) rest = contains_later x r (y ∷ ys) there
    by false (inl is) rest = contains_later y r (put_by_site x ys) (rest (inl is))
    by false (inr there) rest = elim (first_or_later y r ys there) [
      | inl first ↦ contains_first y r (put_by_site x ys) first
      | inr later ↦ contains_later y r (put_by_site x ys) (rest (inr later))
    ]

in_order : (r : Rel) (xs : List Rel) → Contains xs r → Contains (by_site xs) r
in_order r [] there = absurd (nothing_in r there)
in_order r (x ∷ xs) there = elim (first_or_later x r xs there) [
  | inl is ↦ in_put r x (by_site xs) (inl (sym is))
  | inr later ↦ in_put r x (by_site xs) (inr (in_order r xs later))
]

-- ---- entries of relocations

pub in_dynamic : (mode : Mode) (inputs : List RelObject) (x : InputRel) (r : Rel) → Contains (all_rels inputs) x → Contains (site_rels mode inputs x) r
    → Contains (dynamic_rels mode inputs) r
in_dynamic mode inputs x r there own =
    let needs = flat_map (need_rels mode inputs) (all_needs mode inputs) in
    let sites = flat_map (site_rels mode inputs) (all_rels inputs) in
    in_order r (needs ++ sites) (Contains-append_right needs sites r (flat_map_in (site_rels mode inputs) (all_rels inputs) x r there own))

-- those of the GOT
pub need_in_dynamic : (mode : Mode) (inputs : List RelObject) (n : Need) (r : Rel) → Contains (all_needs mode inputs) n → Contains (need_rels mode inputs n) r
    → Contains (dynamic_rels mode inputs) r
need_in_dynamic mode inputs n r there own =
    let needs = flat_map (need_rels mode inputs) (all_needs mode inputs) in
    let sites = flat_map (site_rels mode inputs) (all_rels inputs) in
    in_order r (needs ++ sites) (Contains-append_left needs sites r (flat_map_in (need_rels mode inputs) (all_needs mode inputs) n r there own))

-- a relative relocation is one of DT_REL, or a fixup
pub fixup_listed : (mode : Mode) (inputs : List RelObject) (o : Object) (v : ℕ) → IsOutput mode inputs o → Contains (dynamic_rels mode inputs) (fixup_at v)
    → Contains (sites_of o) (plain_site (fixup_at v))
fixup_listed mode inputs o v out there = by (is_static mode) refl
  where
    rels : List FilledSite
    rels = map plain_site o.rels

    slots : List FilledSite
    slots = slot_sites 0 o.jmprels

    fixups : List FilledSite
    fixups = map plain_site (map fixup_at (unwrap_or o.fixups []))

    by : (b : Bool) → is_static mode ≡ b → Contains (sites_of o) (plain_site (fixup_at v))
    by true static =
        let all : o.fixups ≡ Some (map (λ r. r.site) (dynamic_rels mode inputs)) = out.fixups' ∙ ap (λ b. cond b (Some (map (λ r. r.site) (dynamic_rels mode inputs))) None) static in
        let site : Contains (unwrap_or o.fixups []) v =
        subst (λ (fs : Option (List ℕ)). Contains (unwrap_or fs []) v) (sym all) (map_in (λ (r : Rel). r.site) (dynamic_rels mode inputs) (fixup_at v) there) in
        Contains-append_right (rels ++ slots) fixups (plain_site (fixup_at v))
        (map_in plain_site (map fixup_at (unwrap_or o.fixups [])) (fixup_at v) (map_in fixup_at (unwrap_or o.fixups []) v site))
    by false dynamic =
        let all : o.rels ≡ dynamic_rels mode inputs = out.rels' ∙ ap (λ b. cond b [] (dynamic_rels mode inputs)) dynamic in
        let listed : Contains o.rels (fixup_at v) = subst (λ (rs : List Rel). Contains rs (fixup_at v)) (sym all) there in
        Contains-append_left (rels ++ slots) fixups (plain_site (fixup_at v))
        (Contains-append_left rels slots (plain_site (fixup_at v)) (map_in plain_site o.rels (fixup_at v) listed))
