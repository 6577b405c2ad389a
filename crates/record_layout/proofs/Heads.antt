-- The head of a record: its width; that two fields put into an output one after the other are a head at its first places; and that a head and then a
-- body put into an output are the record of the body there. Assumes nothing.
use mathlib.Core.Path.{◌≡◌, sym, ap, ◌∙◌}
use mathlib.Core.List.{List, ◌++◌, append_assoc}
use Prim.Native.Nat.{ℕ, ◌+◌, ◌≤◌, ◌<◌}
use native.Mathlib.Omega.{arith}
use borrow.Author.Tests.{le-leb, lt-leb}
use borrow.Rule.Slice.PartMut.{put_mid}
use lib.ListN.{length, take, drop, length-append, length-drop}
use lib.Seq.{sets, sets-eq, take_at, drop_at, drop-append-add, drop-drop, length-take-le}
use Rattle.base_fields.specs.Field.{low_bytes}
use Rattle.base_fields.proofs.Written.{low_length}
use Rattle.record_layout.specs.declared.Kind.{Kind}
use Rattle.record_layout.specs.Layout.{kind_number, kind_width, head_width, head_of, with_head, record_of}

pub head_length : (kind : Kind) (following : ℕ) → length (head_of kind following) ≡ head_width
head_length kind following = simp length-append (omega (arith, low_length 4 following, low_length 2 (kind_number kind)))

pub head_into : (kind : Kind) (following : ℕ) (out : List ℕ) → head_width ≤ length out → with_head kind following out ≡ head_of kind following ++ drop head_width out
unfolding with_head
head_into kind following out h = rw (le-leb head_width (length out) h)

pub no_head : (kind : Kind) (following : ℕ) (out : List ℕ) → length out < head_width → with_head kind following out ≡ out
unfolding with_head
no_head kind following out h = rw (lt-leb head_width (length out) h)

pub head_put : (kind : Kind) (following : ℕ) (out first second : List ℕ) → head_width ≤ length out
    → first ≡ low_bytes (length (take 4 out)) following → second ≡ low_bytes (length (take 2 (drop 4 (first ++ drop 4 out)))) (kind_number kind)
    → put_mid 4 2 (first ++ drop 4 out) second ≡ with_head kind following out
head_put kind following out first second h e g =
    let f : first ≡ low_bytes 4 following = e ∙ ap (λ (w : ℕ). low_bytes w following) (length-take-le 4 out (omega arith)) in
    let l : length first ≡ 4 = ap length f ∙ low_length 4 following in
    let d : drop 4 (first ++ drop 4 out) ≡ drop 4 out = drop_at first (drop 4 out) 4 l in
    let s : second ≡ low_bytes 2 (kind_number kind) =
    g ∙ ap (λ (w : List ℕ). low_bytes (length (take 2 w)) (kind_number kind)) d
    ∙ ap (λ (w : ℕ). low_bytes w (kind_number kind)) (length-take-le 2 (drop 4 out) (omega (arith, length-drop 4 out))) in
    ap (λ (w : List ℕ). take 4 (first ++ drop 4 out) ++ (second ++ drop 2 w)) d
    ∙ ap (λ (w : List ℕ). w ++ (second ++ drop 2 (drop 4 out))) (take_at first (drop 4 out) 4 l)
    ∙ ap (λ (w : List ℕ). first ++ (second ++ w)) (drop-drop 2 4 out)
    ∙ ap (λ (w : List ℕ). w ++ (second ++ drop 6 out)) f
    ∙ ap (λ (w : List ℕ). low_bytes 4 following ++ (w ++ drop 6 out)) s
    ∙ sym (append_assoc (low_bytes 4 following) (low_bytes 2 (kind_number kind)) (drop 6 out))
    ∙ sym (head_into kind following out h)

pub record_length_lem : (kind : Kind) (body : List ℕ) → length (record_of kind body) ≡ head_width + length body
unfolding record_of
record_length_lem kind body =
    length-append (head_of kind (kind_width + length body)) body ∙ ap (λ (n : ℕ). n + length body) (head_length kind (kind_width + length body))

-- a head and a body in an output with room for both
pub record_put : (kind : Kind) (following : ℕ) (out body : List ℕ) → following ≡ kind_width + length body → head_width + length body ≤ length out
    → sets (with_head kind following out) head_width body ≡ record_of kind body ++ drop (length (record_of kind body)) out
unfolding record_of
record_put kind following out body e h =
    let head = head_of kind following in
    let l : length head ≡ head_width = head_length kind following in
    let whole : head_width + length body ≤ length (head ++ drop head_width out) = omega (arith, l, length-append head (drop head_width out), length-drop head_width out) in
    ap (λ (w : List ℕ). sets w head_width body) (head_into kind following out (omega arith))
    ∙ sets-eq body (head ++ drop head_width out) head_width whole
    ∙ ap (λ (w : List ℕ). w ++ body ++ drop (head_width + length body) (head ++ drop head_width out)) (take_at head (drop head_width out) head_width l)
    ∙ ap (λ (w : List ℕ). head ++ body ++ w)
    (ap (λ (n : ℕ). drop (n + length body) (head ++ drop head_width out)) (sym l) ∙ drop-append-add head (drop head_width out) (length body)
    ∙ drop-drop (length body) head_width out)
    ∙ ap (λ (n : ℕ). head_of kind n ++ body ++ drop (head_width + length body) out) e
    ∙ ap (λ (n : ℕ). head_of kind (kind_width + length body) ++ body ++ drop n out) (sym (record_length_lem kind body))
