-- Words of the data that the loader doesn't fill lie apart from those that it fills.
use Rattle.std.proofs.Common.{◌≡◌, ◌≢◌, ℕ, ◌+◌, ◌*◌, ◌≤◌, inl, inr, Bool, true, false, cond, ◌||◌, List, [], ◌∷◌, ◌++◌, map, Option, Some, None, refl, sym, ap, subst, ◌∙◌, arith, All}
use Rattle.std.specs.Prelude.{◌==◌, nat_le, Contains, flat_map, unwrap_or}
use Rattle.std.proofs.lemmas.Bool.{eqb-true, or_cases, false≢true}
use Rattle.std.proofs.lemmas.List.Elements.{All-contains, Contains-append_cases}
use Rattle.fd_base.proofs.Members.{all_contained, contains_first, contains_later, first_or_later, in_filter_map, in_flat_map, in_map, nothing_in}
use Rattle.elf_model.specs.declared.constants.TheConstants.{R_ARM_RELATIVE, R_ARM_GLOB_DAT, R_ARM_ABS32, R_ARM_FUNCDESC, R_ARM_FUNCDESC_VALUE}
use Rattle.elf_model.specs.declared.object.Object.{Object}
use Rattle.elf_model.specs.declared.object.Rel.{Rel}
use Rattle.elf_model.specs.declared.relocatable.RelObject.{RelObject}
use Rattle.elf_model.specs.declared.table.Site.{Site}
use Rattle.elf_model.specs.Places.{filled_ranges, site_of_rel}
use Rattle.elf_model.specs.Relocations.{got_header, site_size, word_site}
use Rattle.elf_model.specs.Sound.{RangesApart}
use Rattle.link_model.specs.declared.input.Mode.{Mode}
use Rattle.link_model.specs.declared.need.Need.{Need}
use Rattle.link_model.specs.declared.need.Need.TheVariants.{Word, FuncWord, Descriptor, NoFunction, Slot}
use Rattle.link_model.specs.declared.target.Key.{Key}
use Rattle.link_model.specs.declared.target.Target.{Target}
use Rattle.link_model.specs.DynamicRels.{by_site, dynamic_rels, need_rels, put_by_site}
use Rattle.link_model.specs.DynamicSymbols.{symbol_index}
use Rattle.link_model.specs.GotLayout.{use_size}
use Rattle.link_model.specs.Inputs.{InputRel, all_rels}
use Rattle.link_model.specs.Needs.{all_needs, is_branch, is_idle, kind_of, slot_key, slot_keys, target_at}
use Rattle.link_model.specs.Places.{data_place, got_end, need_place}
use Rattle.link_model.specs.Sections.{is_writable}
use Rattle.link_model.specs.Sites.{address_rels, dynamic_rel, is_address_kind, site_address, site_rels}
use Rattle.link_model.specs.Targets.{is_static, target_of_key}
use Rattle.link_model.specs.parts.Laws.{AreClear, StandsInGot, need_range, word_range}
use Rattle.link_model.proofs.Needed.{needs_lie_apart}
use Rattle.link_model.proofs.Numbering.{rel_inside, section_of_rel}
use Rattle.link_model.proofs.Placed.{data_above, sections_lie_apart}
use Rattle.link_model.proofs.Sited.{address, one_or_apart}
use Rattle.link_means.specs.parts.Laws.{IsOutput, is_filled_kind}
use Rattle.link_means.proofs.Addresses.{address_kinds}

-- ---- order

out_of_put : (r x : Rel) (xs : List Rel) → Contains (put_by_site x xs) r → Contains (x ∷ xs) r
out_of_put r x [] there = there
out_of_put r x (y ∷ ys) there = by (nat_le x.site y.site) there (out_of_put r x ys)
  where
    by : (b : Bool) → Contains (cond b (x ∷ y ∷ ys) (y ∷ put_by_site x ys)) r → (Contains (put_by_site x ys) r → Contains (x ∷ ys) r) → Contains (x ∷ y ∷ ys) r
    by true is rest = is
    by false is rest = elim (first_or_later y r (put_by_site x ys) is) [
      | inl first ↦ contains_later x r (y ∷ ys) (contains_first y r ys first)
      | inr later ↦ elim (first_or_later x r ys (rest later)) [
        | inl own ↦ contains_first x r (y ∷ ys) own
        | inr behind ↦ contains_later x r (y ∷ ys) (contains_later y r ys behind)
      ]
    ]

out_of_order : (r : Rel) (xs : List Rel) → Contains (by_site xs) r → Contains xs r
out_of_order r [] there = there
out_of_order r (x ∷ xs) there = elim (first_or_later x r xs (sorted (out_of_order r xs) (out_of_put r x (by_site xs) there))) [
  | inl is ↦ contains_first x r xs is
  | inr later ↦ contains_later x r xs later
]
  where
    sorted : (Contains (by_site xs) r → Contains xs r) → Contains (x ∷ by_site xs) r → Contains (x ∷ xs) r
    sorted rest is = elim (first_or_later x r (by_site xs) is) [
      | inl first ↦ contains_first x r xs first
      | inr later ↦ contains_later x r xs (rest later)
    ]

-- ---- where entries fill

-- an entry fills bytes of a range
record FillsIn (start size : ℕ) (r : Rel) : Type 0 where
  pub from : start ≤ r.site
  pub to : r.site + site_size r.kind ≤ start + size

one_fills : (site kind symbol n : ℕ) (r : Rel) → site_size kind ≡ n → Contains (dynamic_rel site kind symbol) r → FillsIn site n r
one_fills site kind symbol n r size there = elim (first_or_later (record { site = site; kind = kind; symbol = symbol }) r [] there) [
  | inl is ↦ subst (FillsIn site n) is (record { from = omega arith; to = omega (arith, size) })
  | inr later ↦ absurd (nothing_in r later)
]

-- an address fills one word
address_fills : (mode : Mode) (inputs : List RelObject) (site kind : ℕ) (t : Target) (r : Rel) → site_size kind ≡ 4 → Contains (address_rels mode inputs site kind t) r → FillsIn site 4 r
address_fills mode inputs site kind t r size there = by _ _ there
  where
    by : (a b : Bool) → Contains (cond a (dynamic_rel site kind (symbol_index mode inputs t.key)) (cond b (dynamic_rel site R_ARM_RELATIVE 0) [])) r → FillsIn site 4 r
    by true b is = one_fills site kind (symbol_index mode inputs t.key) 4 r size is
    by false true is = one_fills site R_ARM_RELATIVE 0 4 r refl is
    by false false is = absurd (nothing_in r is)

need_fills : (mode : Mode) (inputs : List RelObject) (n : Need) (r : Rel) → Contains (need_rels mode inputs n) r → FillsIn (need_place mode inputs n) (use_size (kind_of n)) r
need_fills mode inputs (Word key) r there = address_fills mode inputs (need_place mode inputs (Word key)) R_ARM_GLOB_DAT (target_of_key mode inputs key) r refl there
need_fills mode inputs (FuncWord key) r there = address_fills mode inputs (need_place mode inputs (FuncWord key)) R_ARM_FUNCDESC (target_of_key mode inputs key) r refl there
need_fills mode inputs (Descriptor a) r there = by (is_static mode) there
  where
    at : ℕ
    at = need_place mode inputs (Descriptor a)

    widen : (start : ℕ) → at ≤ start → start + 4 ≤ at + 8 → FillsIn start 4 r → FillsIn at 8 r
    widen start low high f = record { from = omega (arith, f.from); to = omega (arith, f.to) }

    by : (b : Bool) → Contains (cond b (dynamic_rel at R_ARM_RELATIVE 0 ++ dynamic_rel (at + 4) R_ARM_RELATIVE 0) (dynamic_rel at R_ARM_FUNCDESC_VALUE 0)) r → FillsIn at 8 r
    by true is = elim (Contains-append_cases (dynamic_rel at R_ARM_RELATIVE 0) (dynamic_rel (at + 4) R_ARM_RELATIVE 0) r is) [
      | inl first ↦ widen at (omega arith) (omega arith) (one_fills at R_ARM_RELATIVE 0 4 r refl first)
      | inr second ↦ widen (at + 4) (omega arith) (omega arith) (one_fills (at + 4) R_ARM_RELATIVE 0 4 r refl second)
    ]
    by false is = one_fills at R_ARM_FUNCDESC_VALUE 0 8 r refl is
need_fills mode inputs (NoFunction key) r there = absurd (nothing_in r there)
need_fills mode inputs (Slot key) r there = absurd (nothing_in r there)

-- of relocations, only those of the kinds that are filled
record IsFilled (mode : Mode) (inputs : List RelObject) (x : InputRel) (r : Rel) : Type 0 where
  pub filled : is_filled_kind (x.rel).kind ≡ true
  pub fills : FillsIn (site_address mode inputs x) 4 r

site_fills : (mode : Mode) (inputs : List RelObject) (x : InputRel) (r : Rel) → Contains (site_rels mode inputs x) r → IsFilled mode inputs x r
unfolding site_rels
site_fills mode inputs x r there = by (is_address_kind (x.rel).kind) ((x.rel).kind == R_ARM_FUNCDESC) refl refl there
  where
    v : ℕ
    v = site_address mode inputs x

    by : (a b : Bool) → is_address_kind (x.rel).kind ≡ a → ((x.rel).kind == R_ARM_FUNCDESC) ≡ b
        → Contains (cond a (address_rels mode inputs v R_ARM_ABS32 (target_at mode inputs x)) (cond b (address_rels mode inputs v R_ARM_FUNCDESC (target_at mode inputs x)) [])) r → IsFilled mode inputs x r
    by true b p q is = record { filled = ap (λ c. c || (x.rel).kind == R_ARM_FUNCDESC) p; fills = address_fills mode inputs v R_ARM_ABS32 (target_at mode inputs x) r refl is }
    by false true p q is = record {
      filled = ap (λ c. c || (x.rel).kind == R_ARM_FUNCDESC) p ∙ q;
      fills = address_fills mode inputs v R_ARM_FUNCDESC (target_at mode inputs x) r refl is;
    }
    by false false p q is = absurd (nothing_in r is)

filled_not_idle : (kind : ℕ) → is_filled_kind kind ≡ true → is_idle kind ≡ false
filled_not_idle kind is = elim (or_cases (is_address_kind kind) (kind == R_ARM_FUNCDESC) is) [
  | inl address ↦ elim (address_kinds kind address) [ inl e ↦ rw e refl | inr e ↦ rw e refl ]
  | inr e ↦ let k = eqb-true kind R_ARM_FUNCDESC e in rw k refl
]

pub filled_not_branch : (kind : ℕ) → is_branch kind ≡ true → is_filled_kind kind ≡ false
filled_not_branch kind is = by (is_filled_kind kind) refl
  where
    never : is_filled_kind kind ≡ true → is_branch kind ≡ false
    never filled = elim (or_cases (is_address_kind kind) (kind == R_ARM_FUNCDESC) filled) [
      | inl address ↦ elim (address_kinds kind address) [ inl e ↦ rw e refl | inr e ↦ rw e refl ]
      | inr e ↦ let k = eqb-true kind R_ARM_FUNCDESC e in rw k refl
    ]

    by : (b : Bool) → is_filled_kind kind ≡ b → is_filled_kind kind ≡ false
    by true filled = absurd (false≢true (sym (never filled) ∙ is))
    by false other = other

pub unfilled_free : (mode : Mode) (inputs : List RelObject) (x : InputRel) → is_filled_kind (x.rel).kind ≡ false → site_rels mode inputs x ≡ []
unfolding site_rels
unfilled_free mode inputs x other = by (is_address_kind (x.rel).kind) ((x.rel).kind == R_ARM_FUNCDESC) other
  where
    by : (a b : Bool) → (a || b) ≡ false
        → cond a (address_rels mode inputs (site_address mode inputs x) R_ARM_ABS32 (target_at mode inputs x))
        (cond b (address_rels mode inputs (site_address mode inputs x) R_ARM_FUNCDESC (target_at mode inputs x)) []) ≡ []
    by true b e = absurd cc
    by false true e = absurd cc
    by false false e = refl

-- what lies apart from a range lies apart from what is filled in it
off_filled : (v : ℕ) (range : Site) (r : Rel) → RangesApart (word_site v) range → FillsIn range.addr range.size r → RangesApart (word_site v) (site_of_rel r)
off_filled v range r (inl h) f = inl (omega (arith, f.from, h))
off_filled v range r (inr h) f = inr (omega (arith, f.to, h))

slot_of_key : (n : Need) (key : Key) → slot_key n ≡ Some key → n ≡ Slot key
slot_of_key (Word k) key is = absurd cc
slot_of_key (FuncWord k) key is = absurd cc
slot_of_key (Descriptor a) key is = absurd cc
slot_of_key (NoFunction k) key is = absurd cc
slot_of_key (Slot k) key is = let same : k ≡ key = cc in ap Slot same

-- ---- a word that no entry fills

module _ (mode : Mode) (inputs : List RelObject) (v : ℕ) (behind : data_place mode inputs + 12 ≤ v)
    (of_need : (n : Need) (r : Rel) → Contains (all_needs mode inputs) n → Contains (need_rels mode inputs n) r → RangesApart (word_site v) (site_of_rel r))
    (of_slot : (key : Key) → Contains (all_needs mode inputs) (Slot key) → RangesApart (word_site v) (need_range mode inputs (Slot key)))
    (of_site : (y : InputRel) (r : Rel) → Contains (all_rels inputs) y → Contains (site_rels mode inputs y) r → RangesApart (word_site v) (site_of_rel r)) where
  abbrev Off : Site → Type 0
  Off s = RangesApart (word_site v) s

  entry_off : (r : Rel) → Contains (dynamic_rels mode inputs) r → Off (site_of_rel r)
  entry_off r in' =
      let needs = flat_map (need_rels mode inputs) (all_needs mode inputs) in
      let sites = flat_map (site_rels mode inputs) (all_rels inputs) in
      elim (Contains-append_cases needs sites r (out_of_order r (needs ++ sites) in')) [
        | inl need ↦ let from = in_flat_map (need_rels mode inputs) (all_needs mode inputs) r need in of_need from.0 r from.1 from.2
        | inr site ↦ let from = in_flat_map (site_rels mode inputs) (all_rels inputs) r site in of_site from.0 r from.1 from.2
      ]

  word_off : (r : Rel) → Off (site_of_rel r) → Off (word_site r.site)
  word_off r off = let n = four r.kind in elim off [ inl h ↦ inl h | inr h ↦ inr (omega (arith, h, n)) ]
    where
      four : (kind : ℕ) → 4 ≤ site_size kind
      four kind = by (kind == R_ARM_FUNCDESC_VALUE)
        where
          by : (b : Bool) → 4 ≤ cond b 8 4
          by true = omega arith
          by false = omega arith

  slot_off : (key : Key) (symbol : ℕ) → Contains (slot_keys mode inputs) key → Off (site_of_rel (record { site = need_place mode inputs (Slot key); kind = R_ARM_FUNCDESC_VALUE; symbol = symbol }))
  slot_off key symbol in' =
      let from = in_filter_map slot_key (all_needs mode inputs) key in' in
      of_slot key (subst (λ (n : Need). Contains (all_needs mode inputs) n) (slot_of_key from.0 key from.2) from.1)

  pub filled_off : (o : Object) → IsOutput mode inputs o → All Off (filled_ranges o)
  filled_off o out = all_contained Off (filled_ranges o) each
    where
      rels : List Site
      rels = map site_of_rel o.rels

      slots : List Site
      slots = map site_of_rel o.jmprels

      fixups : List Site
      fixups = map word_site (unwrap_or o.fixups [])

      of_rel : (r : Rel) → Contains o.rels r → Off (site_of_rel r)
      of_rel r in' = by (is_static mode) (subst (λ (rs : List Rel). Contains rs r) out.rels' in')
        where
          by : (b : Bool) → Contains (cond b [] (dynamic_rels mode inputs)) r → Off (site_of_rel r)
          by true is = absurd (nothing_in r is)
          by false is = entry_off r is

      of_jmprel : (r : Rel) → Contains o.jmprels r → Off (site_of_rel r)
      of_jmprel r in' =
          let from = in_map (λ key. record { site = need_place mode inputs (Slot key); kind = R_ARM_FUNCDESC_VALUE; symbol = symbol_index mode inputs key }) (slot_keys mode inputs) r
          (subst (λ (rs : List Rel). Contains rs r) out.jmprels' in') in
          subst (λ (q : Rel). Off (site_of_rel q)) from.2 (slot_off from.0 (symbol_index mode inputs from.0) from.1)

      of_fixup : (v : ℕ) → Contains (unwrap_or o.fixups []) v → Off (word_site v)
      of_fixup v in' = by (is_static mode) (subst (λ (fs : Option (List ℕ)). Contains (unwrap_or fs []) v) out.fixups' in')
        where
          by : (b : Bool) → Contains (unwrap_or (cond b (Some (map (λ (r : Rel). r.site) (dynamic_rels mode inputs))) None) []) v → Off (word_site v)
          by true is =
              let from = in_map (λ (r : Rel). r.site) (dynamic_rels mode inputs) v is in
              subst (λ (a : ℕ). Off (word_site a)) from.2 (word_off from.0 (entry_off from.0 from.1))
          by false is = absurd (nothing_in v is)

      each : (s : Site) → Contains (filled_ranges o) s → Off s
      each s in' = elim (first_or_later (got_header o.got) s (rels ++ slots ++ fixups) in') [
        | inl is ↦ subst Off is (header (o.got) out.got')
        | inr later ↦ elim (Contains-append_cases (rels ++ slots) fixups s later) [
          | inl tables ↦ elim (Contains-append_cases rels slots s tables) [
            | inl rel ↦ let from = in_map site_of_rel o.rels s rel in subst Off from.2 (of_rel from.0 from.1)
            | inr slot ↦ let from = in_map site_of_rel o.jmprels s slot in subst Off from.2 (of_jmprel from.0 from.1)
          ]
          | inr fixup ↦ let from = in_map word_site (unwrap_or o.fixups []) s fixup in subst Off from.2 (of_fixup from.0 from.1)
        ]
      ]
        where
          header : (got : ℕ) → got ≡ data_place mode inputs → Off (got_header got)
          header got is = inr (omega (arith, is, behind))

-- ---- a word of the data

module _ (mode : Mode) (inputs : List RelObject) (clear : AreClear inputs) (x : InputRel) (there : Contains (all_rels inputs) x)
    (data' : got_end mode inputs ≤ site_address mode inputs x) (free : site_rels mode inputs x ≡ []) (some : is_idle (x.rel).kind ≡ false) where
  abbrev OffWord : Site → Type 0
  OffWord s = RangesApart (word_site (site_address mode inputs x)) s

  need_off : (n : Need) → Contains (all_needs mode inputs) n → OffWord (need_range mode inputs n)
  need_off n in' =
      let stands = All-contains (StandsInGot mode inputs) (all_needs mode inputs) n (needs_lie_apart.each mode inputs) in' in
      inr (omega (arith, stands.to, data'))

  need_rel_off : (n : Need) (r : Rel) → Contains (all_needs mode inputs) n → Contains (need_rels mode inputs n) r → OffWord (site_of_rel r)
  need_rel_off n r in' own = off_filled (site_address mode inputs x) (need_range mode inputs n) r (need_off n in') (need_fills mode inputs n r own)

  site_off : (y : InputRel) (r : Rel) → Contains (all_rels inputs) y → Contains (site_rels mode inputs y) r → OffWord (site_of_rel r)
  site_off y r in' own =
      let f = site_fills mode inputs y r own in
      elim (one_or_apart mode inputs clear x y there in' some (filled_not_idle (y.rel).kind f.filled)) [
        | inl same ↦ absurd (nothing_in r (subst (λ (rs : List Rel). Contains rs r) (ap (site_rels mode inputs) (sym same) ∙ free) own))
        | inr apart ↦ off_filled (site_address mode inputs x) (word_range mode inputs y) r apart f.fills
      ]

  pub all_off : (o : Object) → IsOutput mode inputs o → All OffWord (filled_ranges o)
  all_off = filled_off mode inputs (site_address mode inputs x) (omega (arith, data')) need_rel_off (λ key in'. need_off (Slot key) in') site_off

-- ---- a word of the GOT

-- the word k of a need for which nothing is left to the loader
module _ (mode : Mode) (inputs : List RelObject) (clear : AreClear inputs) (n : Need) (there : Contains (all_needs mode inputs) n) (k : ℕ)
    (inside : 4 * k + 4 ≤ use_size (kind_of n)) (free : need_rels mode inputs n ≡ []) (no_slot : slot_key n ≡ None) where
  abbrev OffNeed : Site → Type 0
  OffNeed s = RangesApart (word_site (need_place mode inputs n + 4 * k)) s

  stands' : StandsInGot mode inputs n
  stands' = All-contains (StandsInGot mode inputs) (all_needs mode inputs) n (needs_lie_apart.each mode inputs) there

  other_off : (a : Need) → Contains (all_needs mode inputs) a → n ≢ a → OffNeed (need_range mode inputs a)
  other_off a in' ne = elim (needs_lie_apart.apart mode inputs n a there in' ne) [ inl h ↦ inl (omega (arith, h, inside)) | inr h ↦ inr (omega (arith, h)) ]

  other_need : (a : Need) (r : Rel) → Contains (all_needs mode inputs) a → Contains (need_rels mode inputs a) r → OffNeed (site_of_rel r)
  other_need a r in' own =
      off_filled (need_place mode inputs n + 4 * k) (need_range mode inputs a) r
      (other_off a in' (λ same. absurd (nothing_in r (subst (λ (rs : List Rel). Contains rs r) (ap (need_rels mode inputs) (sym same) ∙ free) own))))
      (need_fills mode inputs a r own)

  other_slot : (key : Key) → Contains (all_needs mode inputs) (Slot key) → OffNeed (need_range mode inputs (Slot key))
  other_slot key in' = other_off (Slot key) in' (λ same. let never : None ≡ Some key = sym no_slot ∙ ap slot_key same in absurd cc)

  site_of_got : (y : InputRel) (r : Rel) → Contains (all_rels inputs) y → Contains (site_rels mode inputs y) r → OffNeed (site_of_rel r)
  site_of_got y r in' own = off_filled (need_place mode inputs n + 4 * k) (word_range mode inputs y) r (by (is_writable y.at) refl) (site_fills mode inputs y r own).fills
    where
      by : (b : Bool) → is_writable y.at ≡ b → OffNeed (word_range mode inputs y)
      by true writable =
          let place = (sections_lie_apart.each mode inputs y.at (section_of_rel inputs y in').0).in_data writable in
          inl (omega (arith, address mode inputs clear y, place.from, stands'.to, inside))
      by false unwritten =
          let place = (sections_lie_apart.each mode inputs y.at (section_of_rel inputs y in').0).in_text unwritten in
          let within = (rel_inside inputs clear.sound y in').within in
          inr (omega (arith, address mode inputs clear y, place.to, within, data_above mode inputs, stands'.from))

  pub need_all_off : (o : Object) → IsOutput mode inputs o → All OffNeed (filled_ranges o)
  need_all_off = filled_off mode inputs (need_place mode inputs n + 4 * k) (omega (arith, stands'.from)) other_need other_slot site_of_got
