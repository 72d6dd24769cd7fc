-- What the bytes of a flat image say of its sectors.
use Rattle.std.proofs.Common.{◌≡◌, ℕ, ◌+◌, ◌-◌, ◌*◌, ◌/◌, ◌%◌, ◌^◌, ◌<◌, ◌≤◌, min, Bool, List, [], ◌∷◌, ◌++◌, map, length, get_or, take, drop, set, Vec, w16, sym, refl, ap, ◌∙◌, subst, ⊎_elim, arith, rules}
use lib.Seq.{paste}
use Rattle.std.specs.Int.{to_le_bytes}
use Rattle.std.specs.Vec.{with_items}
use Rattle.std.specs.List.{range_with_len, AllByRecursion}
use Rattle.std.proofs.lemmas.List.FromFn.{length-map-range_with_len, get_or-map-range_with_len, fill_by_all}
use Rattle.std.proofs.lemmas.List.Edits.{paste-paste, paste_all}
use Rattle.std.proofs.ByRecursion.{All-map, All-from_get_or, All-get_or, All-append}
use Rattle.std.proofs.lemmas.List.{places, with_items_is, length-append, get_or_append_left, get_or-append_right, length-set, get_or-set_same, get_or-set_other, ext_get_or}
use Rattle.std.proofs.lemmas.Bool.{cases_lt, cases_eq}
use Rattle.device.specs.declared.sector.Sector.{Sector}
use Rattle.device.specs.Device.{blank, WellFormed, wrote}
use Rattle.device.specs.Flat.{byte_at, frame, frame_count, frames, flat, frame_bytes, with_frame}

sector_eq : {b c : List ℕ} {x y z w : ℕ} → b ≡ c → x ≡ y → z ≡ w → ◌≡◌ {A = Sector} (record { bytes = b; back = x; forward = z }) (record { bytes = c; back = y; forward = w })
sector_eq p q r = λ i. record { bytes = p i; back = q i; forward = r i }

byte_is : (x : ℕ) → x < 256 → x % 256 ≡ x
byte_is x h = omega arith

-- a sector that has the bytes of frame n is that frame
pub frame_is : (bs : List ℕ) (n : ℕ) (s : Sector) → ((j : ℕ) → j < 132 → get_or bs (132 * n + j) 0 < 256) → length s.bytes ≡ 128 → ((k : ℕ) → k < 128 → get_or bs (132 * n + k) 0 ≡ get_or s.bytes k 0) → get_or bs (132 * n + 128) 0 + 256 * get_or bs (132 * n + 129) 0 ≡ s.back → get_or bs (132 * n + 130) 0 + 256 * get_or bs (132 * n + 131) 0 ≡ s.forward → s ≡ frame bs n
frame_is bs n s small size same back forward =
    sector_eq
    (fill_by_all (λ k. byte_at bs (132 * n + k)) s.bytes 128 0 size (λ k h. sym (byte_is _ (small k (omega arith)) ∙ same k h)))
    (omega (arith, byte_is _ (small 128 (omega arith)), byte_is _ (small 129 (omega arith))))
    (omega (arith, byte_is _ (small 130 (omega arith)), byte_is _ (small 131 (omega arith))))

frame_same : (old new : List ℕ) (n : ℕ) → ((j : ℕ) → j < 132 → get_or new (132 * n + j) 0 ≡ get_or old (132 * n + j) 0) → frame new n ≡ frame old n
frame_same old new n same =
    sector_eq
    (fill_by_all (λ k. byte_at old (132 * n + k)) _ 128 0 (length-map-range_with_len (λ k. byte_at new (132 * n + k)) 0 128) (λ k h. get_or-map-range_with_len (λ k. byte_at new (132 * n + k)) 0 128 k k 0 h (omega arith) ∙ ap (λ x. x % 256) (same k (omega arith))))
    (omega (arith, same 128 (omega arith), same 129 (omega arith)))
    (omega (arith, same 130 (omega arith), same 131 (omega arith)))

all_counted : {X : Type 0} (P : X → Type 0) (f : ℕ → X) (n : ℕ) → ((i : ℕ) → P (f i)) → AllByRecursion P (map f (range_with_len 0 n))
all_counted P f n h = All-map P f (range_with_len 0 n) (All-from_get_or (λ k. P (f k)) (range_with_len 0 n) 0 (λ i l. h (get_or (range_with_len 0 n) i 0)))

frame_whole : (bs : List ℕ) (n : ℕ) → WellFormed (frame bs n)
frame_whole bs n =
    record {
      count = length-map-range_with_len (λ k. byte_at bs (132 * n + k)) 0 128;
      bytes = all_counted (λ b. b < 2 ^ 8) (λ k. byte_at bs (132 * n + k)) 128 (λ i. omega arith);
      back = omega arith;
      forward = omega arith;
    }

pub length_frames : (bs : List ℕ) → length (frames bs) ≡ frame_count bs
length_frames bs = length-map-range_with_len (frame bs) 0 (frame_count bs)

pub frames_whole : (bs : List ℕ) → AllByRecursion WellFormed (frames bs)
frames_whole bs = all_counted WellFormed (frame bs) (frame_count bs) (frame_whole bs)

pub get_or_frames : (bs : List ℕ) (n : ℕ) → n < frame_count bs → get_or (frames bs) n blank ≡ frame bs n
get_or_frames bs n h = get_or-map-range_with_len (frame bs) 0 (frame_count bs) n n blank h (omega arith)

-- `fs` put over 132 bytes from `start` on
module _ (old fs : List ℕ) (start : ℕ) (size : length fs ≡ 132) (fits : start + 132 ≤ length old) where
  abbrev over : List ℕ
  over = take start old ++ (fs ++ drop (start + 132) old)

  length_over : length over ≡ length old
  length_over = search (rules, places)

  over_here : (j : ℕ) → j < 132 → get_or over (start + j) 0 ≡ get_or fs j 0
  over_here j h = search (rules, places)

  over_before : (i : ℕ) → i < start → get_or over i 0 ≡ get_or old i 0
  over_before i h = search (rules, places)

  over_after : (i : ℕ) → start + 132 ≤ i → get_or over i 0 ≡ get_or old i 0
  over_after i h = grind (arith, places)

abbrev links : Sector → List ℕ
links s = s.back % 256 ∷ s.back / 256 ∷ s.forward % 256 ∷ s.forward / 256 ∷ []

-- a link as its two bytes
link_bytes : (n : ℕ) (bs : List ℕ) → n < 2 ^ 16 → bs ≡ to_le_bytes w16 n → (get_or bs 0 0 ≡ n % 256) × (get_or bs 1 0 ≡ n / 256)
link_bytes n bs h e =
    let high : n / 256 % 256 ≡ n / 256 = omega arith in
    (ap (λ xs. get_or xs 0 0) e, ap (λ xs. get_or xs 1 0) e ∙ high)

-- the bytes of both links
pub links_are : (s : Sector) (b f : List ℕ) → WellFormed s → b ≡ to_le_bytes w16 s.back → f ≡ to_le_bytes w16 s.forward → get_or b 0 0 ∷ get_or b 1 0 ∷ get_or f 0 0 ∷ get_or f 1 0 ∷ [] ≡ links s
links_are s b f w e g =
    let x = link_bytes s.back b w.back e in
    let y = link_bytes s.forward f w.forward g in
    λ i. x.0 i ∷ x.1 i ∷ y.0 i ∷ y.1 i ∷ []

length_frame : (s : Sector) → WellFormed s → length (frame_bytes s) ≡ 132
length_frame s w = length-append s.bytes (links s) ∙ ap (λ k. k + 4) w.count

-- the data and then the links, written one after the other, are the frame
pub frame_from_parts : (old mid new : List ℕ) (n : ℕ) (s : Sector) → 132 * n ≤ length old → WellFormed s → mid ≡ paste old (132 * n) s.bytes (length s.bytes) → new ≡ paste mid (132 * n + 128) (links s) 4 → new ≡ with_frame old n s
frame_from_parts old mid new n s fits w e f =
    f
    ∙ ap (λ xs. paste xs (132 * n + 128) (links s) 4) (e ∙ ap (paste old (132 * n) s.bytes) w.count)
    ∙ paste-paste old (132 * n) s.bytes (links s) 128 4 (sym w.count) refl fits
    ∙ paste_all old (132 * n) (frame_bytes s) 132 (sym (length_frame s w))

-- the sectors after frame n was replaced
module _ (old : List ℕ) (n : ℕ) (s : Sector) (w : WellFormed s) (fits : 132 * n + 132 ≤ length old) where
  abbrev new : List ℕ
  new = with_frame old n s

  here : (j : ℕ) → j < 132 → get_or new (132 * n + j) 0 ≡ get_or (frame_bytes s) j 0
  here = over_here old (frame_bytes s) (132 * n) (length_frame s w) fits

  link : (j : ℕ) → j < 4 → get_or new (132 * n + (128 + j)) 0 ≡ get_or (links s) j 0
  link j h =
      let e : 128 + j - 128 ≡ j = omega arith in
      here (128 + j) (omega arith)
      ∙ get_or-append_right s.bytes (links s) 128 (128 + j) 0 w.count (omega arith)
      ∙ ap (λ k. get_or (links s) k 0) e

  small : (j : ℕ) → j < 132 → get_or (frame_bytes s) j 0 < 256
  small j h =
      All-get_or (λ b. b < 2 ^ 8) (frame_bytes s) j 0 (omega (arith, length_frame s w))
      (All-append (λ b. b < 2 ^ 8) s.bytes (links s) w.bytes (omega arith, (omega arith, (omega arith, (omega arith, tt)))))

  frame_here : frame new n ≡ s
  frame_here =
      sym
      (frame_is new n s (λ j h. rw (here j h) (small j h)) w.count
      (λ k h. here k (omega arith) ∙ get_or_append_left s.bytes (links s) 0 k (rw w.count h))
      (omega (arith, link 0 (omega arith), link 1 (omega arith)))
      (omega (arith, link 2 (omega arith), link 3 (omega arith))))

  frame_there : (k : ℕ) → (k ≡ n → ⊥) → frame new k ≡ frame old k
  frame_there k ne =
      let before = over_before old (frame_bytes s) (132 * n) (length_frame s w) fits in
      let after = over_after old (frame_bytes s) (132 * n) (length_frame s w) fits in
      frame_same old new k (λ j h. ⊎_elim (λ b. before (132 * k + j) (omega arith)) (λ b. after (132 * k + j) (omega (arith, b, ne))) (cases_lt k n))

  frames_with : n < frame_count old → frames new ≡ set (frames old) n s
  frames_with h =
      let size : frame_count new ≡ frame_count old = ap (λ l. min (l / 132) 65535) (length_over old (frame_bytes s) (132 * n) (length_frame s w) fits) in
      let long : length (frames new) ≡ length (frames old) = length_frames new ∙ size ∙ sym (length_frames old) in
      ext_get_or blank (frames new) (set (frames old) n s) (long ∙ sym (length-set (frames old) n s))
      (λ k l.
      let lk : k < frame_count old = omega (arith, l, size, length_frames new) in
      get_or_frames new k (omega (arith, lk, size))
      ∙ ⊎_elim
      (λ (e : k ≡ n). subst (λ i. frame new i ≡ get_or (set (frames old) n s) i blank) (sym e) (frame_here ∙ sym (get_or-set_same (frames old) n s blank (omega (arith, h, length_frames old)))))
      (λ (ne : k ≡ n → ⊥). frame_there k ne ∙ sym (get_or_frames old k lk) ∙ sym (get_or-set_other (frames old) n k s blank ne))
      (cases_eq k n))

pub flat_with : (bs new : List ℕ) (d t : Bool) (n : ℕ) (s : Sector) → n < frame_count bs → WellFormed s → new ≡ with_frame bs n s → flat new d t ≡ wrote (flat bs d t) n s
flat_with bs new d t n s h w e = ap (λ ss. record { sectors = ss; door = d; tab = t }) (ap frames e ∙ frames_with bs n s w (omega arith) h)

-- a vector filled again through its slice
pub filled : {Z : Type 0} (v : Vec ℕ Z) (ws xs : List ℕ) → length ws ≡ v.len → ws ≡ xs → (with_items v ws).items ≡ xs
filled v ws xs l e = with_items_is v ws l ∙ e
