-- A record that was written passes and has its body again; bytes that pass are the record of their body. So a record and its body determine each other.
-- Assumes nothing.
use mathlib.Core.Path.{◌≡◌, sym, ap, ◌∙◌}
use mathlib.Core.Bool.{true}
use mathlib.Core.List.{List, [], ◌++◌, append_assoc, append-nil}
use Prim.Native.Nat.{ℕ, ◌+◌, ◌*◌, ◌^◌, ◌<◌}
use native.Mathlib.Omega.{arith}
use lib.ListN.{length, get_or, take, length-drop, take-append-drop}
use lib.Seq.{drop_at, take_all, take-add}
use Rattle.base_fields.specs.declared.Order.{Order}
use Rattle.base_fields.specs.Field.{field_at, low_bytes}
use Rattle.base_fields.proofs.Written.{low_length, field_from, read_low, low_field}
use Rattle.record_layout.specs.declared.Model.TheVariants.{Ours, Third}
use Rattle.record_layout.specs.declared.Kind.{Kind}
use Rattle.record_layout.specs.declared.Kind.TheVariants.{Histogram, Queue}
use Rattle.record_layout.specs.Layout.{kind_number, can_be, kind_width, head_width, length_in, kind_in, body_in, numbers_in, all_bytes, head_of, record_of}
use Rattle.record_layout.proofs.Frames.{Framed}
use Rattle.record_layout.proofs.Heads.{head_length, record_length_lem}
use Rattle.record_layout.proofs.Runs.{all_read, all_written}

-- ---- what was written
module _ (kind : Kind) (body : List ℕ) where
  pub record_body : body_in (record_of kind body) ≡ body
  unfolding record_of
  record_body = drop_at (head_of kind (kind_width + length body)) body head_width (head_length kind (kind_width + length body))

  parted : record_of kind body ≡ low_bytes 4 (kind_width + length body) ++ (low_bytes 2 (kind_number kind) ++ body)
  unfolding record_of
  parted = append_assoc (low_bytes 4 (kind_width + length body)) (low_bytes 2 (kind_number kind)) body

  small_kind : kind_number kind < 2 ^ 16
  small_kind = go kind
    where
      go : (k : Kind) → kind_number k < 2 ^ 16
      go (Histogram Ours) = omega arith
      go (Histogram Third) = omega arith
      go (Queue Ours) = omega arith
      go (Queue Third) = omega arith

  record_kind : kind_in (record_of kind body) ≡ kind_number kind
  record_kind =
      ap kind_in parted
      ∙ field_from (low_bytes 4 (kind_width + length body) ++ (low_bytes 2 (kind_number kind) ++ body)) 4 4 0 2 (omega arith)
      ∙ ap (λ (l : List ℕ). field_at l 0 2)
      (drop_at (low_bytes 4 (kind_width + length body)) (low_bytes 2 (kind_number kind) ++ body) 4 (low_length 4 (kind_width + length body)))
      ∙ read_low 2 (kind_number kind) body small_kind

  pub record_passes : kind_width + length body < 2 ^ 32 → can_be kind (kind_width + length body) ≡ true → Framed kind (record_of kind body)
  record_passes small can =
      let n = record_length_lem kind body in
      let l : length_in (record_of kind body) ≡ kind_width + length body =
      ap length_in parted ∙ read_low 4 (kind_width + length body) (low_bytes 2 (kind_number kind) ++ body) small in
      record { long = omega (arith, n); kind_is = record_kind; length_is = l ∙ omega (arith, n); can_be_lem = ap (can_be kind) l ∙ can }

-- ---- what passes
pub record_again : (kind : Kind) (bytes : List ℕ) → ((i : ℕ) → get_or bytes i 0 < 256) → Framed kind bytes → record_of kind (body_in bytes) ≡ bytes
unfolding record_of
record_again kind bytes b f =
    let body = body_in bytes in
    let n : kind_width + length body ≡ length_in bytes = omega (arith, f.length_is, f.long, length-drop head_width bytes) in
    ap (λ (l : List ℕ). l ++ low_bytes 2 (kind_number kind) ++ body) (ap (low_bytes 4) n ∙ low_field bytes b 0 4 (omega (arith, f.long)))
    ∙ ap (λ (l : List ℕ). take 4 bytes ++ l ++ body) (ap (low_bytes 2) (sym f.kind_is) ∙ low_field bytes b 4 2 (omega (arith, f.long)))
    ∙ ap (λ (l : List ℕ). l ++ body) (sym (take-add 4 2 bytes))
    ∙ take-append-drop 6 bytes

-- ---- a run of fields that is all there is
pub whole_read : (order : Order) (width : ℕ) (numbers : List ℕ) → ((i : ℕ) → get_or numbers i 0 < 2 ^ (8 * width))
    → numbers_in order width (length numbers) (all_bytes order width numbers) ≡ numbers
whole_read order width numbers h =
    ap (numbers_in order width (length numbers)) (sym (append-nil (all_bytes order width numbers))) ∙ all_read order width numbers [] h

pub whole_written : (order : Order) (width count : ℕ) (bytes : List ℕ) → ((i : ℕ) → get_or bytes i 0 < 256) → length bytes ≡ width * count
    → all_bytes order width (numbers_in order width count bytes) ≡ bytes
whole_written order width count bytes b h =
    all_written order width count bytes b (omega (arith, h)) ∙ take_all (width * count) bytes (omega (arith, h))
