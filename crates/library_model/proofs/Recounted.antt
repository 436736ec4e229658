-- A process in which a module is opened more or less often: the rest is as it was.
use Rattle.std.proofs.Common.{◌≡◌, ◌≢◌, ℕ, inl, inr, true, Option, Some, None, List, [], length, set, refl, sym, ap, ◌∙◌, subst, All, length-set}
use Rattle.std.specs.Prelude.{is_some, option_and_then, AllPairs, Contains, IsSomeAnd}
use Rattle.std.specs.Option.{option_map_or}
use Rattle.std.proofs.lemmas.Bool.{cases_eq}
use Rattle.std.proofs.lemmas.List.Elements.{All-contains, All-weaker}
use Rattle.fd_base.proofs.Members.{all_contained}
use Rattle.fd_base.proofs.Options.{some_of, some_and, of_some_and}
use Rattle.load_model.specs.declared.module.Group.{Group}
use Rattle.load_model.specs.declared.module.Live.{Live}
use Rattle.load_model.specs.declared.module.SymbolicProcess.{SymbolicProcess}
use Rattle.load_model.specs.Process.{live_at, is_live, number_of, group_at, group_scope}
use Rattle.load_model.specs.Validity.{IsMember, IsGroup, IsValid}
use Rattle.load_process.proofs.NumberedPlaces.{at_place, at_place-set_same, at_place-set_other, within_places}
use Rattle.load_process.proofs.Validity.{HasNamesOnce, number_named, named_number}
use Rattle.library_model.specs.Opens.{with_opens}

-- two live modules that differ in their counts of opens at most
pub record IsAlike (a b : Live) : Type 0 where
  pub count : ℕ
  pub rest : b ≡ record a { opens = count }

pub same_name : (a b : Live) → IsAlike a b → b.name ≡ a.name
same_name a b alike = ap (λ (l : Live). l.name) alike.rest

pub same_group : (a b : Live) → IsAlike a b → b.group ≡ a.group
same_group a b alike = ap (λ (l : Live). l.group) alike.rest

-- process q is p where module m has this count of opens
pub record IsRecounted (p q : SymbolicProcess) (m k : ℕ) : Type 0 where
  pub size : length q.modules ≡ length p.modules
  pub groups' : q.groups ≡ p.groups
  pub global' : q.global ≡ p.global
  pub here : (a : Live) → live_at p m ≡ Some a → live_at q m ≡ Some (record a { opens = k })
  pub others : (n : ℕ) → n ≢ m → live_at q n ≡ live_at p n
  pub nobody : live_at p m ≡ None → live_at q m ≡ None

abbrev with_live : SymbolicProcess → ℕ → ℕ → Option Live → SymbolicProcess
with_live p m k o = option_map_or (λ live. record p { modules = set p.modules m (Some (record live { opens = k })) }) o p

pub recounted : (p : SymbolicProcess) (m k : ℕ) → IsRecounted p (with_opens p m k) m k
recounted p m k = elim (live_at p m) as (λ o. live_at p m ≡ o → IsRecounted p (with_live p m k o) m k) [
  | None ↦ λ e. record {
    size = refl;
    groups' = refl;
    global' = refl;
    here = λ a f. let never : None ≡ Some a = sym e ∙ f in cc;
    others = λ n apart. refl;
    nobody = λ f. f;
  }
  | Some live ↦ λ e.
      let new : Option Live = Some (record live { opens = k }) in
      let there : at_place (set p.modules m new) m ≡ new = at_place-set_same p.modules m new (within_places p.modules m live e) in
      record {
        size = length-set p.modules m new;
        groups' = refl;
        global' = refl;
        here = λ a f. let same : live ≡ a = one live a (sym e ∙ f) in there ∙ ap (λ (l : Live). Some (record l { opens = k })) same;
        others = λ n apart. at_place-set_other p.modules m n new apart;
        nobody = λ f. let never : None ≡ Some live = sym f ∙ e in cc;
      }
] refl
  where
    one : (a b : Live) → Some a ≡ Some b → a ≡ b
    one a b e = cc

module _ (p q : SymbolicProcess) (m k : ℕ) (r : IsRecounted p q m k) where
  -- ---- the same modules are live

  pub after : (n : ℕ) (a : Live) → live_at p n ≡ Some a → (b : Live) × (live_at q n ≡ Some b) × IsAlike a b
  after n a e = elim (cases_eq n m) [
    | inl same ↦
        let here = r.here a (ap (live_at p) (sym same) ∙ e) in
        (record a { opens = k }, ap (live_at q) same ∙ here, record { count = k; rest = refl })
    | inr apart ↦ (a, r.others n apart ∙ e, record { count = a.opens; rest = refl })
  ]

  pub before : (n : ℕ) (b : Live) → live_at q n ≡ Some b → (a : Live) × (live_at p n ≡ Some a) × IsAlike a b
  before n b e = elim (live_at p n) as (λ o. live_at p n ≡ o → (a : Live) × (live_at p n ≡ Some a) × IsAlike a b) [
    | None ↦ λ f. elim (cases_eq n m) [
      | inl same ↦
          let none : live_at q n ≡ None = ap (live_at q) same ∙ r.nobody (ap (live_at p) (sym same) ∙ f) in
          let never : None ≡ Some b = sym none ∙ e in
          cc
      | inr apart ↦ let never : None ≡ Some b = sym f ∙ sym (r.others n apart) ∙ e in cc
    ]
    | Some a ↦ λ f.
        let now = after n a f in
        let same : now.0 ≡ b = cc in
        (a, f, subst (IsAlike a) same now.2)
  ] refl

  pub still_live : (n : ℕ) → is_live p n ≡ true → is_live q n ≡ true
  still_live n e = let live = some_of (live_at p n) e in ap is_some (after n live.0 live.1).1

  -- ---- groups

  pub group_same : (g : ℕ) → group_at q g ≡ group_at p g
  group_same g = ap (λ l. at_place l g) r.groups'

  pub scope_same : (n : ℕ) (a : Live) → live_at p n ≡ Some a → group_scope q n ≡ group_scope p n
  scope_same n a e =
      let now = after n a e in
      ap (λ o. option_map_or (λ g. g.scope) (option_and_then (λ live. group_at q live.group) o) []) now.1
      ∙ ap (λ g. option_map_or (λ g. g.scope) (group_at q g) []) (same_group a now.0 now.2)
      ∙ ap (λ o. option_map_or (λ g. g.scope) o []) (group_same a.group)
      ∙ ap (λ o. option_map_or (λ g. g.scope) (option_and_then (λ live. group_at p live.group) o) []) (sym e)

  -- ---- so it is valid if it was

  module _ (valid : IsValid p) where
    names_once : HasNamesOnce q
    names_once n o a b e f same =
        let first = before n a e in
        let second = before o b f in
        valid.names n o first.0 second.0 first.1 second.1 (sym (same_name first.0 a first.2) ∙ same ∙ same_name second.0 b second.2)

    number_same : (name : List ℕ) (n : ℕ) → number_of p name ≡ Some n → number_of q name ≡ Some n
    number_same name n e =
        let is = number_named p name n e in
        let now = after n is.0 is.1 in
        named_number q name n now.0 names_once now.1 (same_name is.0 now.0 now.2 ∙ is.2)

    member_same : (n k : ℕ) (a : Live) → live_at p n ≡ Some a → IsMember q n (record a { opens = k })
    member_same n k a e =
        let member = valid.members n a e in
        record {
          grouped = λ none. member.grouped (sym (group_same a.group) ∙ none);
          needs = all_contained (λ name. IsSomeAnd (number_of q name) (λ o. Contains (group_scope q n) o)) a.object.needed (λ name c.
              let had = of_some_and (λ o. Contains (group_scope p n) o) (number_of p name)
              (All-contains (λ name. IsSomeAnd (number_of p name) (λ o. Contains (group_scope p n) o)) a.object.needed name member.needs c) in
              some_and (λ o. Contains (group_scope q n) o) (number_of q name) had.0 (number_same name had.0 had.1)
              (subst (λ l. Contains l had.0) (sym (scope_same n a e)) had.2));
          flags = member.flags;
          calls = member.calls;
        }

    member_after : (n : ℕ) (b : Live) → live_at q n ≡ Some b → IsMember q n b
    member_after n b e =
        let was = before n b e in
        subst (IsMember q n) (sym was.2.rest) (member_same n was.2.count was.0 was.1)

    all_live : (ns : List ℕ) → All (λ n. is_live p n ≡ true) ns → All (λ n. is_live q n ≡ true) ns
    all_live ns all = All-weaker (λ n. is_live p n ≡ true) (λ n. is_live q n ≡ true) still_live ns all

    group_after : (g : ℕ) (group : Group) → group_at q g ≡ Some group → IsGroup q g group
    group_after g group e =
        let was = valid.scopes g group (sym (group_same g) ∙ e) in
        let founder = of_some_and (λ live. live.group ≡ g) (live_at p g) was.founder in
        let now = after g founder.0 founder.1 in
        record {
          founder = some_and (λ live. live.group ≡ g) (live_at q g) now.0 now.1 (same_group founder.0 now.0 now.2 ∙ founder.2);
          scope' = all_live group.scope was.scope';
        }

    pub recounted_valid : IsValid q
    recounted_valid = record {
      modules' = r.size ∙ valid.modules';
      groups' = ap length r.groups' ∙ valid.groups';
      names = names_once;
      members = member_after;
      scopes = group_after;
      global' = subst (All (λ n. is_live q n ≡ true)) (sym r.global') (all_live p.global valid.global');
      once = subst (AllPairs (λ m n. m ≢ n)) (sym r.global') valid.once;
    }
