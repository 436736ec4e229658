-- The files of a link, and what putting what they are linked to answers.
use Rattle.std.proofs.Common.{◌≡◌, ℕ, zero, suc, ◌+◌, ◌<◌, ◌≤◌, List, [], ◌∷◌, ◌++◌, length, get_or, map, take, drop, Option, Some, None, Result, Ok, Err, IfSome, OnOk, Bool, true, false, MatchBool, nat_lt, if◌then◌else◌, refl, sym, ap, subst, ◌∙◌, arith, All, unwrap_or}
use Rattle.std.proofs.lemmas.List.{map-append, take_all, take_more, take-append-drop, drop_more}
use Rattle.std.proofs.lemmas.List.Elements.{All-append}
use Rattle.std.proofs.lemmas.List.FromFn.{length-enumerate_from, get_or-enumerate_from}
use Rattle.std.specs.FinMap.{get}
use Rattle.std.specs.Option.{option_map}
use Rattle.fd_base.specs.Fetched.{Files, with_file}
use Rattle.fd_base.proofs.Changing.{rose_earlier}
use Rattle.elf_model.specs.declared.object.Object.{Object}
use Rattle.elf_model.specs.declared.refusal.ElfRefusal.{ElfRefusal}
use Rattle.elf_model.specs.declared.relocatable.RelObject.{RelObject}
use Rattle.elf_model.specs.Object as object
use Rattle.elf_model.specs.Relocatable.{IsRelocatable, relocatable_refusal_of, relocatable_of}
use Rattle.link_model.specs.declared.error.LinkRefusal.{LinkRefusal}
use Rattle.link_model.specs.declared.error.LinkRefusal.TheVariants.{Elf, LibElf}
use Rattle.link_model.specs.declared.input.Lib.{Lib}
use Rattle.link_model.specs.declared.input.Mode.{Mode}
use Rattle.link_model.specs.Inputs.{numbered}
use Rattle.link_model.specs.Object.{object_of, needed_of}
use Rattle.elf_model.specs.RelSound.{IsNameText, IsRelSound}
use Rattle.link_model.specs.Refusals.{refusal_of}
use Rattle.link_writes.specs.Linked.{AreInputs, written_sizes}
use Rattle.elf_write.specs.ObjectFile.{object_file}
use Rattle.elf_write.specs.TableSegment.{with_tables}
use Rattle.fdpic_link.specs.parts.Links.{Links}
use Rattle.link_means.specs.Linked.{IsLinked, IsOfBytes}
use Rattle.link_means.proofs.Bytes.{bytes_of_file}
use Rattle.fdpic_cmd.specs.declared.status.Failure.{Failure}
use Rattle.fdpic_cmd.specs.declared.status.Failure.TheVariants.{Refused as Refuses, StoreFault as Fails, Memory as Lacks}
use Rattle.fdpic_cmd.specs.declared.status.Refusal.{Refusal}
use Rattle.fdpic_cmd.specs.declared.status.Refusal.TheVariants.{NoFile, TooLong, Link}
use Rattle.fdpic_cmd.specs.declared.status.Status.{Status}
use Rattle.fdpic_cmd.specs.declared.status.Status.TheVariants.{Refused}
use Rattle.fdpic_cmd.specs.Ended.{Makes, Puts, Reads}
use Rattle.fdpic_cmd.specs.Files.{Fetched, IsFile, Never, OnFound, PutsBytes}
use Rattle.fdpic_cmd.specs.Link.{and_then, found_bytes, bytes_of, read_unless, lib_of, input_of, lib_in, input_in, all_of, libs_in, inputs_in, linked_unless, linked, linked_file, LinkMeans}
use Rattle.fdpic_cmd.specs.Linked.{IsLinkedFrom, PutLinked}
use Rattle.fdpic_cmd.specs.Outcome.{Outcome, put_as, puts, refuses}
use Rattle.fdpic_cmd.proofs.FoundFiles.{not_long}
use Rattle.fdpic_cmd.proofs.PutFiles.{put_answers}

-- ---- the bytes of a file

bytes_there : (told : Files) (name bytes : List ℕ) → IsFile told name bytes → bytes_of told name ≡ Ok bytes
bytes_there told name bytes file =
    ap (found_bytes name) file.found ∙ ap (λ long. if long then Err (TooLong name) else Ok bytes) (not_long (length bytes) file.short)

abbrev said_of : Refusal → Status → Refusal
said_of other (Refused r) = r
said_of other status = other

same_refusal : (r s : Refusal) → refuses r ≡ refuses s → r ≡ s
same_refusal r s same = ap (λ o. said_of r o.status) same

missing_as : (name : List ℕ) (r : Refusal) (f : Option (List ℕ)) → OnFound name Never f (refuses r) → found_bytes name f ≡ Err r
missing_as name r None is = ap (λ r. Err r) (sym (same_refusal r (NoFile name) is))
missing_as name r (Some bytes) is =
    elim (nat_lt 4194304 (length bytes)) as (λ long. MatchBool long (refuses r ≡ refuses (TooLong name)) (Never bytes (refuses r)) → (if long then Err (TooLong name) else Ok bytes) ≡ Err r) [
      | true ↦ λ e. ap (λ r. Err r) (sym (same_refusal r (TooLong name) e))
      | false ↦ λ e. absurd e
    ] is

module _ {X : Type 0} (of_bytes : List ℕ → Result X Refusal) where
  there : (told : Files) (name bytes : List ℕ) → IsFile told name bytes → and_then (bytes_of told name) of_bytes ≡ of_bytes bytes
  there told name bytes file = ap (λ r. and_then r of_bytes) (bytes_there told name bytes file)

  missing_where : (files : Option Files) (name : List ℕ) (r : Refusal) → IfSome files (λ told. OnFound name Never (get told name) (refuses r))
      → IfSome files (λ told. and_then (bytes_of told name) of_bytes ≡ Err r)
  missing_where None name r is = tt
  missing_where (Some told) name r is = ap (λ r. and_then r of_bytes) (missing_as name r (get told name) is)

  -- a file that isn't there, is too long or can't be fetched
  pub missing : (files : Option Files) (name : List ℕ) (old new : ℕ) (e : Failure) → Fetched files name old new (Err e)
      → Reads (λ told. and_then (bytes_of told name) of_bytes) files old new (Err e)
  missing files name old new (Refuses r) is = missing_where files name r is
  missing files name old new Fails is = is
  missing files name old new Lacks is = tt

-- ---- what it is read as

module _ (k : ℕ) (name bytes : List ℕ) where
  pub lib_there : (files : Option Files) (o : Object) → IfSome files (λ told. IsFile told name bytes) → object.IsObject bytes o
      → IfSome files (λ told. lib_in told (k, name) ≡ Ok (record { name = name; object = o }))
  lib_there None o file is = tt
  lib_there (Some told) o file is =
      there (lib_of (k, name)) told name bytes file
      ∙ ap (λ t. read_unless t (LibElf k) (record { name = name; object = object.object_of bytes })) is.passes
      ∙ ap (λ o. Ok (record { name = name; object = o })) (sym is.fields)

  pub lib_refused : (files : Option Files) (test : ElfRefusal) → IfSome files (λ told. IsFile told name bytes) → object.refusal_of bytes ≡ Some test
      → IfSome files (λ told. lib_in told (k, name) ≡ Err (Link (LibElf k)))
  lib_refused None test file is = tt
  lib_refused (Some told) test file is =
      there (lib_of (k, name)) told name bytes file ∙ ap (λ t. read_unless t (LibElf k) (record { name = name; object = object.object_of bytes })) is

  pub input_there : (files : Option Files) (o : RelObject) → IfSome files (λ told. IsFile told name bytes) → IsRelocatable bytes o
      → IfSome files (λ told. input_in told (k, name) ≡ Ok o)
  input_there None o file is = tt
  input_there (Some told) o file is =
      there (input_of (k, name)) told name bytes file
      ∙ ap (λ t. read_unless t (Elf k) (relocatable_of bytes)) is.passes ∙ ap (λ o. Ok o) (sym is.fields)

  pub input_refused : (files : Option Files) (test : ElfRefusal) → IfSome files (λ told. IsFile told name bytes) → relocatable_refusal_of bytes ≡ Some test
      → IfSome files (λ told. input_in told (k, name) ≡ Err (Link (Elf k)))
  input_refused None test file is = tt
  input_refused (Some told) test file is =
      there (input_of (k, name)) told name bytes file ∙ ap (λ t. read_unless t (Elf k) (relocatable_of bytes)) is

-- the bytes of its sections are the file's
pub input_bytes : (bytes : List ℕ) (o : RelObject) → IsRelocatable bytes o → ((i : ℕ) → get_or bytes i 0 < 256) → IsOfBytes o
input_bytes bytes o is small = subst IsOfBytes (sym is.fields) (bytes_of_file bytes small)

-- ---- all of them

module _ {X : Type 0} where
  all_taken : (xs : List X) → all_of (map (λ x. Ok x) xs) ≡ Ok xs
  all_taken [] = refl
  all_taken (x ∷ xs) = ap (λ r. and_then r (λ ys. Ok (x ∷ ys))) (all_taken xs)

  one_refused : (xs : List X) (r : Refusal) (rest : List (Result X Refusal)) → all_of (map (λ x. Ok x) xs ++ Err r ∷ rest) ≡ Err r
  one_refused [] r rest = refl
  one_refused (x ∷ xs) r rest = ap (λ s. and_then s (λ ys. Ok (x ∷ ys))) (one_refused xs r rest)

module _ {X : Type 0} (read : ℕ × List ℕ → Result X Refusal) (names : List (List ℕ)) where
  number-at : (k : ℕ) (d : List ℕ) → k < length names → get_or (numbered names) k (0, d) ≡ (k, get_or names k d)
  number-at k d lt = get_or-enumerate_from 0 names k (0, d) lt ∙ (let none : 0 + k ≡ k = omega arith in ap (λ m. (m, get_or names k d)) none)

  abbrev firsts_read : ℕ → List X → Type 0
  firsts_read k xs = map read (take k (numbered names)) ≡ map (λ x. Ok x) xs

  -- one file more
  pub one_more : (k : ℕ) (d : List ℕ) (xs : List X) (x : X) → k < length names → firsts_read k xs → read (k, get_or names k d) ≡ Ok x → firsts_read (k + 1) (xs ++ x ∷ [])
  one_more k d xs x lt before is =
      let within : k < length (numbered names) = omega (arith, length-enumerate_from 0 names) in
      ap (map read) (take_more (numbered names) k (0, d) within)
      ∙ map-append read (take k (numbered names)) (get_or (numbered names) k (0, d) ∷ [])
      ∙ ap (λ e. map read (take k (numbered names)) ++ read e ∷ []) (number-at k d lt)
      ∙ ap (λ r. map read (take k (numbered names)) ++ r ∷ []) is
      ∙ ap (λ rs. rs ++ Ok x ∷ []) before
      ∙ sym (map-append (λ x. Ok x) xs (x ∷ []))

  -- all files
  pub all_read : (k : ℕ) (xs : List X) → length names ≤ k → firsts_read k xs → all_of (map read (numbered names)) ≡ Ok xs
  all_read k xs le before =
      let whole : length (numbered names) ≤ k = omega (arith, length-enumerate_from 0 names) in
      ap (λ es. all_of (map read es)) (sym (take_all k (numbered names) whole)) ∙ ap all_of before ∙ all_taken xs

  -- a file that is refused
  pub stops_at : (k : ℕ) (d : List ℕ) (xs : List X) (r : Refusal) → k < length names → firsts_read k xs → read (k, get_or names k d) ≡ Err r → all_of (map read (numbered names)) ≡ Err r
  stops_at k d xs r lt before is =
      let within : k < length (numbered names) = omega (arith, length-enumerate_from 0 names) in
      ap (λ es. all_of (map read es)) (sym (take-append-drop k (numbered names)))
      ∙ ap all_of (map-append read (take k (numbered names)) (drop k (numbered names)))
      ∙ ap (λ es. all_of (map read (take k (numbered names)) ++ map read es)) (drop_more (numbered names) k (0, d) within)
      ∙ ap (λ e. all_of (map read (take k (numbered names)) ++ read e ∷ map read (drop (k + 1) (numbered names)))) (number-at k d lt)
      ∙ ap (λ r. all_of (map read (take k (numbered names)) ++ r ∷ map read (drop (k + 1) (numbered names)))) is
      ∙ ap (λ rs. all_of (rs ++ Err r ∷ map read (drop (k + 1) (numbered names)))) before
      ∙ one_refused xs r (map read (drop (k + 1) (numbered names)))

-- ---- over told files

module _ {X : Type 0} (read : Files → ℕ × List ℕ → Result X Refusal) (names : List (List ℕ)) where
  -- the first k files are read as these
  abbrev pub Taken : Option Files → ℕ → List X → Type 0
  Taken files k xs = IfSome files (λ told. map (read told) (take k (numbered names)) ≡ map (λ x. Ok x) xs)

  pub none_taken : (files : Option Files) → Taken files 0 []
  none_taken None = tt
  none_taken (Some told) = refl

  pub taken_more : (files : Option Files) (k : ℕ) (d : List ℕ) (xs : List X) (x : X) → k < length names → Taken files k xs
      → IfSome files (λ told. read told (k, get_or names k d) ≡ Ok x) → Taken files (k + 1) (xs ++ x ∷ [])
  taken_more None k d xs x lt before is = tt
  taken_more (Some told) k d xs x lt before is = one_more (read told) names k d xs x lt before is

  pub taken_all : (files : Option Files) (k : ℕ) (xs : List X) → length names ≤ k → Taken files k xs
      → IfSome files (λ told. all_of (map (read told) (numbered names)) ≡ Ok xs)
  taken_all None k xs le before = tt
  taken_all (Some told) k xs le before = all_read (read told) names k xs le before

  refused_at : (files : Option Files) (k : ℕ) (d : List ℕ) (xs : List X) (r : Refusal) → k < length names → Taken files k xs
      → IfSome files (λ told. read told (k, get_or names k d) ≡ Err r) → IfSome files (λ told. all_of (map (read told) (numbered names)) ≡ Err r)
  refused_at None k d xs r lt before is = tt
  refused_at (Some told) k d xs r lt before is = stops_at (read told) names k d xs r lt before is

  pub taken_stops : (files mid : Option Files) (old between new : ℕ) (k : ℕ) (d : List ℕ) (xs : List X) (e : Failure) → mid ≡ files → old ≤ between → between ≤ new
      → k < length names → Taken files k xs → Reads (λ told. read told (k, get_or names k d)) mid between new (Err e)
      → Reads (λ told. all_of (map (read told) (numbered names))) files old new (Err e)
  taken_stops files mid old between new k d xs (Refuses r) same low high lt before is =
      refused_at files k d xs r lt before (let P : Option Files → Type 0 = λ f. IfSome f (λ told. read told (k, get_or names k d) ≡ Err r) in subst P same is)
  taken_stops files mid old between new k d xs Fails same low high lt before is = rose_earlier old between new low high is
  taken_stops files mid old between new k d xs Lacks same low high lt before is = tt

-- ---- libraries, and inputs

-- what reading a file answers, by another name of the file, and over files that are the same
moved : {X : Type 0} (read : Files → ℕ × List ℕ → Result X Refusal) (files mid : Option Files) (k n : ℕ) (at name : List ℕ) (old new : ℕ) (r : Result X Failure)
    → mid ≡ files → n ≡ k → name ≡ at → Reads (λ told. read told (n, name)) mid old new r → Reads (λ told. read told (k, at)) files old new r
moved {X} read files mid k n at name old new r same number here is =
    let P : Option Files → Type 0 = λ f. Reads {X = X} (λ told. read told (n, name)) f old new r in
    let Q : ℕ → Type 0 = λ m. Reads {X = X} (λ told. read told (m, name)) files old new r in
    let R : List ℕ → Type 0 = λ t. Reads {X = X} (λ told. read told (k, t)) files old new r in
    subst R here (subst Q number (subst P same is))

module _ (names : List (List ℕ)) (files mid : Option Files) (k n : ℕ) (name d : List ℕ) where
  pub libs_more : (old new : ℕ) (xs : List Lib) (x : Lib) → mid ≡ files → n ≡ k → name ≡ get_or names k d → k < length names → Taken lib_in names files k xs
      → Reads (λ told. lib_in told (n, name)) mid old new (Ok x) → Taken lib_in names files (k + 1) (xs ++ x ∷ [])
  libs_more old new xs x same number here lt before is =
      taken_more lib_in names files k d xs x lt before (moved lib_in files mid k n (get_or names k d) name old new (Ok x) same number here is)

  pub libs_stop : (old between new : ℕ) (xs : List Lib) (e : Failure) → mid ≡ files → n ≡ k → name ≡ get_or names k d → k < length names → old ≤ between → between ≤ new
      → Taken lib_in names files k xs → Reads (λ told. lib_in told (n, name)) mid between new (Err e) → Reads (libs_in names) files old new (Err e)
  libs_stop old between new xs e same number here lt low high before is =
      taken_stops lib_in names files files old between new k d xs e refl low high lt before
      (moved lib_in files mid k n (get_or names k d) name between new (Err e) same number here is)

  pub inputs_more : (old new : ℕ) (xs : List RelObject) (x : RelObject) → mid ≡ files → n ≡ k → name ≡ get_or names k d → k < length names → Taken input_in names files k xs
      → Reads (λ told. input_in told (n, name)) mid old new (Ok x) → Taken input_in names files (k + 1) (xs ++ x ∷ [])
  inputs_more old new xs x same number here lt before is =
      taken_more input_in names files k d xs x lt before (moved input_in files mid k n (get_or names k d) name old new (Ok x) same number here is)

  pub inputs_stop : (old between new : ℕ) (xs : List RelObject) (e : Failure) → mid ≡ files → n ≡ k → name ≡ get_or names k d → k < length names → old ≤ between → between ≤ new
      → Taken input_in names files k xs → Reads (λ told. input_in told (n, name)) mid between new (Err e) → Reads (inputs_in names) files old new (Err e)
  inputs_stop old between new xs e same number here lt low high before is =
      taken_stops input_in names files files old between new k d xs e refl low high lt before
      (moved input_in files mid k n (get_or names k d) name between new (Err e) same number here is)

pub libs_all : (names : List (List ℕ)) (files : Option Files) (k : ℕ) (xs : List Lib) → length names ≤ k → Taken lib_in names files k xs → IfSome files (λ told. libs_in names told ≡ Ok xs)
libs_all names files k xs le before = taken_all lib_in names files k xs le before

pub inputs_all : (names : List (List ℕ)) (files : Option Files) (k : ℕ) (xs : List RelObject) → length names ≤ k → Taken input_in names files k xs
    → IfSome files (λ told. inputs_in names told ≡ Ok xs)
inputs_all names files k xs le before = taken_all input_in names files k xs le before

-- one name more that can be written
pub named_more : (libs : List Lib) (lib : Lib) → All IsNameText (needed_of libs) → All IsNameText (needed_of (lib ∷ [])) → All IsNameText (needed_of (libs ++ lib ∷ []))
named_more libs lib named one =
    let P : List (List ℕ) → Type 0 = All IsNameText in
    subst P (sym (map-append (λ (l : Lib). unwrap_or (l.object).soname l.name) libs (lib ∷ []))) (All-append IsNameText (needed_of libs) (needed_of (lib ∷ [])) named one)

-- ---- what they are linked to

pub are_inputs : (soname : List ℕ) (inputs : List RelObject) (libs : List Lib) → All IsRelSound inputs → IsNameText soname → All IsNameText (needed_of libs)
    → AreInputs soname inputs libs
are_inputs soname inputs libs sound own needed = record { sound = sound; own_name = own; needed_names = needed }

pub linked_makes : (mode : Mode) (out : List ℕ) (inputs : List RelObject) (libs : List Lib) (bytes : List ℕ) → Links mode out inputs libs (Ok bytes)
    → linked mode out libs inputs ≡ Ok bytes
linked_makes mode out inputs libs bytes is =
    ap (λ r. linked_unless r (object_file (object_of mode out inputs libs))) is.0 ∙ ap (λ b. Ok b) (sym is.1)

pub linked_refuses : (mode : Mode) (out : List ℕ) (inputs : List RelObject) (libs : List Lib) (r : LinkRefusal)
    → refusal_of written_sizes mode out inputs libs ≡ Some r → linked mode out libs inputs ≡ Err (Link r)
linked_refuses mode out inputs libs r is = ap (λ r. linked_unless r (object_file (object_of mode out inputs libs))) is

-- ---- what is put

module _ (out : List ℕ) (mode : Mode) (libs inputs : List (List ℕ)) where
  pub linked_from : (files mid : Option Files) (objects : List Lib) (parts : List RelObject) (soname bytes : List ℕ) → mid ≡ files → soname ≡ out
      → IfSome files (λ told. libs_in libs told ≡ Ok objects) → IfSome mid (λ told. inputs_in inputs told ≡ Ok parts)
      → bytes ≡ object_file (object_of mode soname parts objects) → object.IsObject bytes (with_tables (object_of mode soname parts objects))
      → IsLinked mode soname parts objects (object_of mode soname parts objects) → IfSome files (IsLinkedFrom out mode libs inputs bytes)
  linked_from None mid objects parts soname bytes same named ls is file reads means = tt
  linked_from (Some told) mid objects parts soname bytes same named ls is file reads means =
      let P : Option Files → Type 0 = λ f. IfSome f (λ told. inputs_in inputs told ≡ Ok parts) in
      let Q : List ℕ → Type 0 = λ name. object.IsObject bytes (with_tables (object_of mode name parts objects)) in
      let R : List ℕ → Type 0 = λ name. IsLinked mode name parts objects (object_of mode name parts objects) in
      record {
        objects = objects;
        parts = parts;
        libs' = ls;
        inputs' = subst P same is;
        file = file ∙ ap (λ name. object_file (object_of mode name parts objects)) named;
        reads = subst Q named reads;
        means = subst R named means;
      }

  put_file : (files mid later : Option Files) (bytes : List ℕ) → mid ≡ files → IfSome files (IsLinkedFrom out mode libs inputs bytes)
      → later ≡ option_map (with_file out bytes) mid → IfSome files (PutLinked out mode libs inputs later)
  put_file None mid later bytes same is put' = tt
  put_file (Some told) mid later bytes same is put' = record { bytes = bytes; linked = is; put = put' ∙ ap (option_map (with_file out bytes)) same }

  pub linked_is_put : (files mid later : Option Files) (old new : ℕ) (bytes : List ℕ) (result : Result (Unit {0}) Failure) → mid ≡ files
      → IfSome files (IsLinkedFrom out mode libs inputs bytes) → PutsBytes mid later out bytes old new result
      → OnOk result (IfSome files (PutLinked out mode libs inputs later))
  linked_is_put files mid later old new bytes (Ok done) same is put' = put_file files mid later bytes same is put'
  linked_is_put files mid later old new bytes (Err e) same is put' = tt
