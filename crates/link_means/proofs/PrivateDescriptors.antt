-- Private descriptors: each is of another function, and the loader knows the function's descriptor by it.
use Rattle.std.proofs.Common.{◌≡◌, ◌≢◌, ℕ, ◌+◌, ◌*◌, ◌%◌, ◌^◌, ◌<◌, inl, inr, Bool, true, false, cond, not, ◌&&◌, List, [], ◌∷◌, ◌++◌, get_or, refl, sym, ap, subst, ◌∙◌, arith, All, AllPairs}
use Rattle.std.specs.Prelude.{◌==◌, Contains, filter, flat_map, nat_le, unwrap_or}
use Rattle.std.proofs.lemmas.Bool.{eqb-true, false≢true}
use Rattle.std.proofs.lemmas.List.Elements.{All-append, All-cons, All-contains, All-head, All-nil, All-tail, Contains-get_or}
use Rattle.std.proofs.lemmas.List.Kept.{AllPairs-filter}
use Rattle.fd_base.proofs.Lists.{pairs_of_none}
use Rattle.fd_base.proofs.Members.{all_contained, contains_first, in_filter, in_flat_map}
use Rattle.elf_model.specs.declared.constants.TheConstants.{R_ARM_ABS32, R_ARM_FUNCDESC, R_ARM_FUNCDESC_VALUE, R_ARM_GLOB_DAT, R_ARM_RELATIVE}
use Rattle.elf_model.specs.declared.object.Object.{Object}
use Rattle.elf_model.specs.declared.object.Rel.{Rel}
use Rattle.elf_model.specs.declared.relocatable.RelObject.{RelObject}
use Rattle.elf_model.specs.Places.{file_byte, file_word, site_of_rel}
use Rattle.elf_model.specs.Relocations.{site_size}
use Rattle.elf_model.specs.Sound.{RangesApart}
use Rattle.load_map.specs.Translation.{placed}
use Rattle.load_model.specs.Definition.{Linkage}
use Rattle.load_model.specs.Image.{Placing}
use Rattle.link_model.specs.declared.input.Mode.{Mode}
use Rattle.link_model.specs.declared.need.Need.{Need}
use Rattle.link_model.specs.declared.need.Need.TheVariants.{Word, FuncWord, Descriptor, NoFunction, Slot}
use Rattle.link_model.specs.declared.target.Target.{Target}
use Rattle.link_model.specs.DynamicRels.{by_site, dynamic_rels, need_rels, put_by_site}
use Rattle.link_model.specs.DynamicSymbols.{symbol_index}
use Rattle.link_model.specs.Inputs.{InputRel, all_rels}
use Rattle.link_model.specs.Needs.{all_needs, target_at}
use Rattle.link_model.specs.Places.{data_end, need_place}
use Rattle.link_model.specs.Sites.{address_rels, dynamic_rel, is_address_kind, site_address, site_rels}
use Rattle.link_model.specs.Targets.{is_absolute, is_dynamic, is_settled, is_static, target_of_key}
use Rattle.link_model.specs.parts.Laws.{AreClear, IsWellTyped}
use Rattle.link_model.proofs.Placed.{data_above}
use Rattle.link_sites.specs.Loaded.{HoldsWord, IsModule}
use Rattle.link_sites.specs.parts.Linked.{HasDescriptor}
use Rattle.link_sites.proofs.Descriptors.{listed_own}
use Rattle.link_writes.proofs.Sites.{dynamic_apart}
use Rattle.link_means.specs.Linked.{is_pair}
use Rattle.link_means.specs.Values.{own_descriptor}
use Rattle.link_means.specs.parts.Laws.{IsOutput}
use Rattle.link_means.proofs.Got.{got_word_stands}
use Rattle.link_means.proofs.Held.{data_begins, word_of_bytes}
use Rattle.link_means.proofs.Listed.{need_in_dynamic}
use Rattle.link_means.proofs.OwnDescriptors.{function_below}
use Rattle.link_means.proofs.Sharing.{data_small}

-- ---- order changes nothing of what holds of all

module _ (P : Rel → Type 0) where
  all_put : (r : Rel) (xs : List Rel) → P r → All P xs → All P (put_by_site r xs)
  all_put r [] here all = All-cons P r [] here all
  all_put r (x ∷ xs) here all = by (nat_le r.site x.site) (all_put r xs here (All-tail P x xs all))
    where
      by : (b : Bool) → All P (put_by_site r xs) → All P (cond b (r ∷ x ∷ xs) (x ∷ put_by_site r xs))
      by true rest = All-cons P r (x ∷ xs) here all
      by false rest = All-cons P x (put_by_site r xs) (All-head P x xs all) rest

  all_sorted : (xs : List Rel) → All P xs → All P (by_site xs)
  all_sorted [] all = all
  all_sorted (x ∷ xs) all = all_put x (by_site xs) (All-head P x xs all) (all_sorted xs (All-tail P x xs all))

-- ---- of what the loader fills, only descriptors are pairs

abbrev pair_at : ℕ → Rel
pair_at site = record { site = site; kind = R_ARM_FUNCDESC_VALUE; symbol = 0 }

module _ (mode : Mode) (inputs : List RelObject) where
  -- the entry of a function's descriptor
  pub record IsOfFunction (r : Rel) : Type 0 where
    pub function : ℕ
    pub needed : Contains (all_needs mode inputs) (Descriptor function)
    pub site' : r.site ≡ need_place mode inputs (Descriptor function)
    pub symbol' : r.symbol ≡ 0

  abbrev IfPair : Rel → Type 0
  IfPair r = r.kind ≡ R_ARM_FUNCDESC_VALUE → IsOfFunction r

  no_pair : (site kind symbol : ℕ) → (kind == R_ARM_FUNCDESC_VALUE) ≡ false → All IfPair (dynamic_rel site kind symbol)
  no_pair site kind symbol other =
      All-cons IfPair (record { site = site; kind = kind; symbol = symbol }) []
      (λ is. absurd (false≢true (sym other ∙ ap (λ k. k == R_ARM_FUNCDESC_VALUE) is))) (All-nil IfPair)

  no_pair_of_address : (site kind : ℕ) (t : Target) → (kind == R_ARM_FUNCDESC_VALUE) ≡ false → All IfPair (address_rels mode inputs site kind t)
  no_pair_of_address site kind t other = by (is_dynamic t.reach) (is_settled t.reach && not (is_absolute t.spot))
    where
      by : (a b : Bool) → All IfPair (cond a (dynamic_rel site kind (symbol_index mode inputs t.key)) (cond b (dynamic_rel site R_ARM_RELATIVE 0) []))
      by true b = no_pair site kind (symbol_index mode inputs t.key) other
      by false true = no_pair site R_ARM_RELATIVE 0 refl
      by false false = All-nil IfPair

  of_need : (n : Need) → Contains (all_needs mode inputs) n → All IfPair (need_rels mode inputs n)
  of_need (Word key) there = no_pair_of_address (need_place mode inputs (Word key)) R_ARM_GLOB_DAT (target_of_key mode inputs key) refl
  of_need (FuncWord key) there = no_pair_of_address (need_place mode inputs (FuncWord key)) R_ARM_FUNCDESC (target_of_key mode inputs key) refl
  of_need (Descriptor a) there = by (is_static mode)
    where
      at : ℕ
      at = need_place mode inputs (Descriptor a)

      by : (b : Bool) → All IfPair (cond b (dynamic_rel at R_ARM_RELATIVE 0 ++ dynamic_rel (at + 4) R_ARM_RELATIVE 0) (dynamic_rel at R_ARM_FUNCDESC_VALUE 0))
      by true =
          All-append IfPair (dynamic_rel at R_ARM_RELATIVE 0) (dynamic_rel (at + 4) R_ARM_RELATIVE 0)
          (no_pair at R_ARM_RELATIVE 0 refl) (no_pair (at + 4) R_ARM_RELATIVE 0 refl)
      by false = All-cons IfPair (pair_at at) [] (λ is. record { function = a; needed = there; site' = refl; symbol' = refl }) (All-nil IfPair)
  of_need (NoFunction key) there = All-nil IfPair
  of_need (Slot key) there = All-nil IfPair

  of_site : (x : InputRel) → All IfPair (site_rels mode inputs x)
  unfolding site_rels
  of_site x = by (is_address_kind (x.rel).kind) ((x.rel).kind == R_ARM_FUNCDESC)
    where
      v : ℕ
      v = site_address mode inputs x

      t : Target
      t = target_at mode inputs x

      by : (a b : Bool) → All IfPair (cond a (address_rels mode inputs v R_ARM_ABS32 t) (cond b (address_rels mode inputs v R_ARM_FUNCDESC t) []))
      by true b = no_pair_of_address v R_ARM_ABS32 t refl
      by false true = no_pair_of_address v R_ARM_FUNCDESC t refl
      by false false = All-nil IfPair

  all_pairs : All IfPair (dynamic_rels mode inputs)
  all_pairs =
      let needs = flat_map (need_rels mode inputs) (all_needs mode inputs) in
      let sites = flat_map (site_rels mode inputs) (all_rels inputs) in
      all_sorted IfPair (needs ++ sites)
      (All-append IfPair needs sites
      (all_contained IfPair needs (λ r there.
      let from = in_flat_map (need_rels mode inputs) (all_needs mode inputs) r there in
      All-contains IfPair (need_rels mode inputs from.0) r (of_need from.0 from.1) from.2))
      (all_contained IfPair sites (λ r there.
      let from = in_flat_map (site_rels mode inputs) (all_rels inputs) r there in
      All-contains IfPair (site_rels mode inputs from.0) r (of_site from.0) from.2)))

  pub pair_is : (r : Rel) → Contains (dynamic_rels mode inputs) r → r.kind ≡ R_ARM_FUNCDESC_VALUE → IsOfFunction r
  pair_is r there kind = All-contains IfPair (dynamic_rels mode inputs) r all_pairs there kind

  -- ---- the first word of a descriptor tells its function

  module _ (clear : AreClear inputs) (o : Object) (out : IsOutput mode inputs o) (end : data_end mode inputs < 2 ^ 32) where
    function_small : (a : ℕ) → Contains (all_needs mode inputs) (Descriptor a) → a < 2 ^ 32
    function_small a needed = omega (arith, function_below mode inputs a needed, data_above mode inputs, data_begins mode inputs, end)

    function_word : (a : ℕ) → Contains (all_needs mode inputs) (Descriptor a) → file_word o.segments (need_place mode inputs (Descriptor a)) ≡ a
    function_word a needed =
        let at = need_place mode inputs (Descriptor a) in
        let first = got_word_stands mode inputs (Descriptor a) needed clear o out 0 (a % 2 ^ 32) (omega arith) refl in
        let begin : at + 4 * 0 ≡ at = omega arith in
        let bytes = subst (λ v. HoldsWord (file_byte o.segments) v (a % 2 ^ 32)) begin first in
        let whole : a % 2 ^ 32 ≡ a = omega (arith, function_small a needed) in
        word_of_bytes o.segments at (a % 2 ^ 32) (omega arith) bytes ∙ whole

    pair_word : (r : Rel) (f : IsOfFunction r) → file_word o.segments r.site ≡ f.function
    pair_word r f = ap (file_word o.segments) f.site' ∙ function_word f.function f.needed

    one_place : (r q : Rel) (f : IsOfFunction r) (g : IsOfFunction q) → f.function ≡ g.function → r.site ≡ q.site
    one_place r q f g same = f.site' ∙ ap (λ a. need_place mode inputs (Descriptor a)) same ∙ sym g.site'

    same_function : (w f a : ℕ) → w ≡ f → w % 2 ^ 32 ≡ a % 2 ^ 32 → f < 2 ^ 32 → a < 2 ^ 32 → f ≡ a
    same_function w f a is same small small' = omega (arith, is, same, small, small')

    has_descriptor : is_static mode ≡ false → (a : ℕ) → Contains (all_needs mode inputs) (Descriptor a)
        → HasDescriptor o (need_place mode inputs (Descriptor a)) (a % 2 ^ 32)
    has_descriptor dynamic a needed =
        let at = need_place mode inputs (Descriptor a) in
        let rels : o.rels ≡ dynamic_rels mode inputs = out.rels' ∙ ap (λ b. cond b [] (dynamic_rels mode inputs)) dynamic in
        let own : need_rels mode inputs (Descriptor a) ≡ pair_at at ∷ [] =
        ap (λ b. cond b (dynamic_rel at R_ARM_RELATIVE 0 ++ dynamic_rel (at + 4) R_ARM_RELATIVE 0) (dynamic_rel at R_ARM_FUNCDESC_VALUE 0)) dynamic in
        let in' : Contains (need_rels mode inputs (Descriptor a)) (pair_at at) =
        subst (λ (rs : List Rel). Contains rs (pair_at at)) (sym own) (contains_first (pair_at at) (pair_at at) [] refl) in
        let whole : a % 2 ^ 32 ≡ a = omega (arith, function_small a needed) in
        let fact : IsOfFunction (pair_at at) = record { function = a; needed = needed; site' = refl; symbol' = refl } in
        record {
          rel = pair_at at;
          listed = subst (λ (rs : List Rel). Contains rs (pair_at at)) (sym rels) (need_in_dynamic mode inputs (Descriptor a) (pair_at at) needed in');
          kind' = refl;
          symbol' = refl;
          site' = refl;
          small = omega arith;
          word = function_word a needed ∙ sym whole;
          one = λ r there kind.
              let f = pair_is r (subst (λ (rs : List Rel). Contains rs r) rels there) kind in (
                f.symbol',
                λ same. one_place r (pair_at at) f fact
                    (same_function (file_word o.segments r.site) f.function a (pair_word r f) same (function_small f.function f.needed) (function_small a needed)),
              );
        }

    -- two pairs that share no byte are of two functions
    of_two : (r q : Rel) → Contains (dynamic_rels mode inputs) r × (is_pair r ≡ true) → Contains (dynamic_rels mode inputs) q × (is_pair q ≡ true)
        → RangesApart (site_of_rel r) (site_of_rel q) → file_word o.segments r.site ≢ file_word o.segments q.site
    of_two r q one two apart same =
        let kind = eqb-true r.kind R_ARM_FUNCDESC_VALUE one.1 in
        let kind' = eqb-true q.kind R_ARM_FUNCDESC_VALUE two.1 in
        let f = pair_is r one.0 kind in
        let g = pair_is q two.0 kind' in
        let at : r.site ≡ q.site = one_place r q f g (sym (pair_word r f) ∙ same ∙ pair_word q g) in
        let size : site_size r.kind ≡ 8 = ap site_size kind in
        let size' : site_size q.kind ≡ 8 = ap site_size kind' in
        elim apart [
          | inl before ↦ absurd (omega (arith, before, at, size))
          | inr behind ↦ absurd (omega (arith, behind, at, size'))
        ]

-- ---- the laws

-- outside static programs a function's descriptor is the one that the loader knows
pub own_outside : (mode : Mode) (inputs : List RelObject) (o : Object) (l : Linkage) (p : Placing) (m : ℕ)
    → AreClear inputs → IsOutput mode inputs o → IsModule l p m o → is_static mode ≡ false
    → (a : ℕ) → Contains (all_needs mode inputs) (Descriptor a) → own_descriptor mode inputs p m a ≡ placed (p.maps m) (need_place mode inputs (Descriptor a))
own_outside mode inputs o l p m clear out is dynamic a needed =
    let at = need_place mode inputs (Descriptor a) in
    let h = has_descriptor mode inputs clear o out (data_small mode inputs o out is.sound) dynamic a needed in
    let known = is.own (record { «module» = m; value = a % 2 ^ 32 }) at (listed_own l m o at (a % 2 ^ 32) is.filled h) in
    ap (λ b. cond b (placed (p.maps m) at) (unwrap_or (p.descriptors (record { «module» = m; value = a % 2 ^ 32 })) 0)) dynamic ∙ ap (λ v. unwrap_or v 0) known

-- two private descriptors of an object are of two functions
pub one_descriptor_each : (mode : Mode) (inputs : List RelObject) (o : Object)
    → AreClear inputs → ((x : InputRel) → Contains (all_rels inputs) x → IsWellTyped mode inputs x)
    → IsOutput mode inputs o → data_end mode inputs < 2 ^ 32
    → AllPairs (λ r q. file_word o.segments r.site ≢ file_word o.segments q.site) (filter is_pair o.rels)
one_descriptor_each mode inputs o clear typed out end = subst (λ (rs : List Rel). AllPairs AreOfTwo (filter is_pair rs)) (sym out.rels') (by (is_static mode))
  where
    AreOfTwo : Rel → Rel → Type 0
    AreOfTwo r q = file_word o.segments r.site ≢ file_word o.segments q.site

    all : List Rel
    all = dynamic_rels mode inputs

    each : AllPairs AreOfTwo (filter is_pair all)
    each i j d lt within =
        let r = get_or (filter is_pair all) i d in
        let q = get_or (filter is_pair all) j d in
        let one = in_filter is_pair all r (Contains-get_or (filter is_pair all) i d (omega (arith, lt, within))) in
        let two = in_filter is_pair all q (Contains-get_or (filter is_pair all) j d within) in
        of_two mode inputs clear o out end r q one two
        (AllPairs-filter (λ (a b : Rel). RangesApart (site_of_rel a) (site_of_rel b)) is_pair all (dynamic_apart mode inputs clear typed) i j d lt within)

    by : (b : Bool) → AllPairs AreOfTwo (filter is_pair (cond b [] all))
    by true = pairs_of_none AreOfTwo
    by false = each
