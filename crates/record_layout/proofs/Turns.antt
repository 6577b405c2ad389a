-- One turn of a loop that reads or writes fields of one width: what is left gives what all of it gives. Assumes nothing.
use mathlib.Core.Path.{◌≡◌, sym, ap, ◌∙◌}
use mathlib.Core.List.{List, [], ◌∷◌, ◌++◌, append_assoc, append-nil}
use Prim.Native.Nat.{ℕ, zero, suc, ◌+◌, ◌*◌, ◌-◌, ◌≤◌, ◌<◌}
use native.Mathlib.Numerals.{add-one}
use native.Mathlib.Omega.{arith}
use lib.ListN.{length, get_or, take, drop, set, length-take, length-drop}
use Rattle.std.specs.Simd.{first_chunks}
use borrow.Rule.Slice.PartMut.{put_mid}
use lib.Seq.{sets, sets-eq, length-sets, drop-cons, drop-drop, take-suc-set, take_all}
use lib.ListN.{drop_of_length-le}
use Rattle.base_fields.specs.declared.Order.{Order}
use Rattle.base_fields.specs.declared.Order.TheVariants.{LowFirst}
use Rattle.base_fields.specs.Field.{low_bytes, number_in, bytes_of}
use Rattle.base_fields.proofs.Orders.{bytes_length, number_within}
use Rattle.record_layout.specs.Layout.{numbers_in, all_bytes}

-- ---- reading
-- before the first turn all are left
pub all_left : (order : Order) (width : ℕ) (bytes : List ℕ) (at n : ℕ) → numbers_in order width (n - 0) (drop (at + 0) bytes) ≡ numbers_in order width n (drop at bytes)
all_left order width bytes at n =
    ap (λ (k : ℕ). numbers_in order width k (drop (at + 0) bytes)) {x = n - 0} {y = n} (omega arith)
    ∙ ap (λ (k : ℕ). numbers_in order width n (drop k bytes)) {x = at + 0} {y = at} (omega arith)

-- a field, and the others
pub next_number : (order : Order) (width : ℕ) (bytes : List ℕ) (at next n k value : ℕ) → n ≡ suc k → next ≡ at + width
    → value ≡ number_in order width (drop at bytes) → numbers_in order width n (drop at bytes) ≡ value ∷ numbers_in order width k (drop next bytes)
unfolding numbers_in
next_number order width bytes at next n k value more on is = rw (more, on, ← drop-drop width at bytes, is)

pub read_turn : (order : Order) (width : ℕ) (bytes numbers : List ℕ) (at next i n value : ℕ) → i < length numbers → n ≡ suc (length numbers - (i + 1))
    → value ≡ number_in order width (drop at bytes) → next ≡ at + width
    → take (i + 1) (set numbers i value) ++ numbers_in order width (length numbers - (i + 1)) (drop next bytes)
    ≡ take i numbers ++ numbers_in order width n (drop at bytes)
read_turn order width bytes numbers at next i n value h w v e =
    rw (next_number order width bytes at next n (length numbers - (i + 1)) value w e v)
    (rw (add-one i, take-suc-set numbers i value h)
    (append_assoc (take i numbers) (value ∷ []) (numbers_in order width (length numbers - suc i) (drop next bytes))))

pub read_end : (order : Order) (width : ℕ) (bytes numbers : List ℕ) (i : ℕ) → length numbers ≤ i
    → take i numbers ++ numbers_in order width (length numbers - i) bytes ≡ numbers
unfolding numbers_in
read_end order width bytes numbers i h =
    let z : length numbers - i ≡ 0 = omega arith in
    rw (z, take_all i numbers h) (append-nil numbers)

-- ---- writing from a list of numbers
pub sets_append : (out first rest : List ℕ) (at next : ℕ) → next ≡ at + length first → sets out at (first ++ rest) ≡ sets (sets out at first) next rest
sets_append out [] rest at next e = ap (λ (p : ℕ). sets out p rest) {x = at} {y = next} (omega arith)
sets_append out (b ∷ first) rest at next e = sets_append (set out at b) first rest (suc at) next (omega arith)

pub write_turn : (order : Order) (width : ℕ) (out numbers : List ℕ) (at next i : ℕ) → i < length numbers → next ≡ at + width
    → sets (sets out at (bytes_of order width (get_or numbers i 0))) next (all_bytes order width (drop (i + 1) numbers))
    ≡ sets out at (all_bytes order width (drop i numbers))
unfolding all_bytes
write_turn order width out numbers at next i h e =
    let here = bytes_of order width (get_or numbers i 0) in
    rw (add-one i, drop-cons numbers i 0 h)
    (sym (sets_append out here (all_bytes order width (drop (suc i) numbers)) at next (omega (arith, bytes_length order width (get_or numbers i 0)))))

pub write_end : (order : Order) (width : ℕ) (out numbers : List ℕ) (at i : ℕ) → length numbers ≤ i
    → sets out at (all_bytes order width (drop i numbers)) ≡ out
unfolding all_bytes
write_end order width out numbers at i h = rw (drop_of_length-le numbers {i = i} h)

-- ---- parts
-- a part that is written, as long as it was
pub part_put : (out part : List ℕ) (at n : ℕ) → length part ≡ n → at + n ≤ length out → put_mid at n out part ≡ sets out at part
part_put out part at n e h =
    ap (λ (k : ℕ). take at out ++ (part ++ drop k (drop at out))) (sym e)
    ∙ ap (λ (l : List ℕ). take at out ++ (part ++ l)) (drop-drop (length part) at out)
    ∙ sym (append_assoc (take at out) part (drop (at + length part) out))
    ∙ sym (sets-eq part out at (omega arith))

pub put_length : (out part : List ℕ) (at n : ℕ) → length part ≡ n → at + n ≤ length out → length (put_mid at n out part) ≡ length out
put_length out part at n e h = ap length (part_put out part at n e h) ∙ length-sets out at part

-- a number's bytes put into a part as wide as they are
pub field_put : (order : Order) (out part : List ℕ) (at width n number : ℕ) → n ≡ width → at + width ≤ length out
    → part ≡ bytes_of order (length (take n (drop at out))) number → put_mid at n out part ≡ sets out at (bytes_of order width number)
field_put order out part at width n number w h e =
    let l : length (take n (drop at out)) ≡ width = simp (length-take, length-drop) (omega arith) in
    let p : part ≡ bytes_of order width number = e ∙ ap (λ (k : ℕ). bytes_of order k number) l in
    part_put out part at n (ap length p ∙ bytes_length order width number ∙ sym w) (omega arith) ∙ ap (sets out at) p

-- the same of a number whose bytes low byte first are those of another in an order
pub low_put : (order : Order) (out part : List ℕ) (at width n low number : ℕ) → n ≡ width → at + width ≤ length out
    → part ≡ low_bytes (length (take n (drop at out))) low → low_bytes width low ≡ bytes_of order width number → put_mid at n out part ≡ sets out at (bytes_of order width number)
low_put order out part at width n low number w h e same = field_put LowFirst out part at width n low w h e ∙ ap (sets out at) same

-- all places are written
pub sets_whole : {A : Type 0} (out all : List A) → length out ≡ length all → sets out 0 all ≡ all
sets_whole out all e = sets-eq all out 0 (omega arith) ∙ rw (drop_of_length-le out {i = 0 + length all} (omega arith)) (append-nil all)

-- a part up to the end
pub rest_is : (bytes : List ℕ) (at : ℕ) → take (length bytes - at) (drop at bytes) ≡ drop at bytes
rest_is bytes at = take_all (length bytes - at) (drop at bytes) (simp length-drop (omega arith))

-- a part of so many bytes among those that there are
pub chunk_at : (width count : ℕ) (bytes : List ℕ) (i : ℕ) (d : List ℕ) → i < count → get_or (first_chunks width count bytes) i d ≡ take width (drop (width * i) bytes)
chunk_at width zero bytes i d h = absurd (omega arith)
chunk_at width (suc count) bytes zero d h = ap (λ (k : ℕ). take width (drop k bytes)) {x = 0} {y = width * 0} (omega arith)
chunk_at width (suc count) bytes (suc i) d h =
    chunk_at width count (drop width bytes) i d (omega arith)
    ∙ ap (take width) (drop-drop (width * i) width bytes)
    ∙ ap (λ (k : ℕ). take width (drop k bytes)) {x = width + width * i} {y = width * suc i} (omega arith)

-- and the number in it
pub chunk_number : (order : Order) (width count : ℕ) (bytes : List ℕ) (chunks : List (List ℕ)) (i value : ℕ) → chunks ≡ first_chunks width count bytes → i < count
    → value ≡ number_in order width (get_or chunks i []) → value ≡ number_in order width (drop (width * i) bytes)
chunk_number order width count bytes chunks i value c h v =
    v ∙ ap (λ (all : List (List ℕ)). number_in order width (get_or all i [])) c ∙ ap (number_in order width) (chunk_at width count bytes i [] h)
    ∙ number_within order width (drop (width * i) bytes) width (omega arith)
