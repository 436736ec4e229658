use Rattle.std.proofs.Common.{◌≡◌, ◌⊎◌, inl, inr, ℕ, ◌+◌, ◌-◌, ◌*◌, ◌<◌, ◌≤◌, List, length, ap, refl, sym, false, subst, ◌∙◌, arith}
use Rattle.guest_mem.specs.Memory.{GuestMemory}
use Rattle.guest_mem.proofs.Pasted.{length-pasted}
use Rattle.load_map.specs.Image.{bytes_of_map}
use Rattle.load_model.specs.Layout.{HasBytes, IsBlank}
use Rattle.load_memory.proofs.PutBytes.{put_clear-bytes, put_clear-zeros, put_clear-rest, put_clear-map}
use Rattle.fd_base.specs.Ranges.{is_in}
use Rattle.fd_base.proofs.Ranges.{outside}
use Rattle.load_memory.proofs.tables.put_load_map.Goals as goal

pub fill_bytes-requires : goal.fill_bytes-requires
fill_bytes-requires c =
    let long : length c.as_slice-bytes.result.now ≡ 4 + 12 * length c.args.load_map.now = ap length c.as_slice-bytes.ensures ∙ c.of-image.ensures.size in
    omega arith

pub clear_bytes-requires : goal.clear_bytes-requires
clear_bytes-requires c =
    let long : length c.as_slice-bytes.result.now ≡ 4 + 12 * length c.args.load_map.now = ap length c.as_slice-bytes.ensures ∙ c.of-image.ensures.size in
    let size : length c.fill_bytes.new.guest.bytes ≡ length c.args.guest.now.bytes =
    ap (λ (m : GuestMemory). length m.bytes) c.fill_bytes.ensures ∙ length-pasted c.args.guest.now.bytes c.as_slice-bytes.result.now c.load_map_at-addr.result in
    omega arith

pub returns-clause-load_map : goal.returns-clause-load_map
returns-clause-load_map c =
    let at : ℕ = c.load_map_at-addr.result in
    let bytes : List ℕ = c.as_slice-bytes.result.now in
    let told : bytes ≡ bytes_of_map c.args.load_map.now = c.as_slice-bytes.ensures ∙ c.of-image.ensures.bytes in
    let long : length bytes ≡ 4 + 12 * length c.args.load_map.now = ap length c.as_slice-bytes.ensures ∙ c.of-image.ensures.size in
    record {
      bytes = subst (λ (a : ℕ). HasBytes c.clear_bytes.new.guest a (bytes_of_map c.args.load_map.now)) c.load_map_at-addr.ensures
          (subst (HasBytes c.clear_bytes.new.guest at) told
          (put_clear-bytes c.args.guest.now c.fill_bytes.new.guest c.clear_bytes.new.guest at (at + length bytes) bytes (112 - length bytes) c.fill_bytes.ensures c.clear_bytes.ensures refl (omega arith)));
      rest = subst (λ (a : ℕ). IsBlank c.clear_bytes.new.guest (a + length (bytes_of_map c.args.load_map.now)) (112 - length (bytes_of_map c.args.load_map.now))) c.load_map_at-addr.ensures
          (subst (λ (xs : List ℕ). IsBlank c.clear_bytes.new.guest (at + length xs) (112 - length xs)) told
          (put_clear-zeros c.args.guest.now c.fill_bytes.new.guest c.clear_bytes.new.guest at (at + length bytes) bytes (112 - length bytes) c.fill_bytes.ensures c.clear_bytes.ensures refl (omega arith)));
    }

pub returns-clause-rest : goal.returns-clause-rest
returns-clause-rest c = λ a h.
    let at : ℕ = c.load_map_at-addr.result in
    let bytes : List ℕ = c.as_slice-bytes.result.now in
    let long : length bytes ≡ 4 + 12 * length c.args.load_map.now = ap length c.as_slice-bytes.ensures ∙ c.of-image.ensures.size in
    let out : (a < at) ⊎ (at + 112 ≤ a) = outside at 112 a (subst (λ (x : ℕ). is_in x 112 a ≡ false) (sym c.load_map_at-addr.ensures) h) in
    put_clear-rest c.args.guest.now c.fill_bytes.new.guest c.clear_bytes.new.guest at (at + length bytes) bytes (112 - length bytes) c.fill_bytes.ensures c.clear_bytes.ensures refl a
    (elim out [ inl l ↦ inl l | inr l ↦ inr (omega arith) ])

pub returns-clause-map : goal.returns-clause-map
returns-clause-map c =
    let at : ℕ = c.load_map_at-addr.result in
    let bytes : List ℕ = c.as_slice-bytes.result.now in
    put_clear-map c.args.guest.now c.fill_bytes.new.guest c.clear_bytes.new.guest at (at + length bytes) bytes (112 - length bytes) c.fill_bytes.ensures c.clear_bytes.ensures refl
