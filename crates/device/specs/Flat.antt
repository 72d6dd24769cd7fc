-- What a flat image means: frames of 132 bytes, each a sector's data, back link and forward link, low byte first.
use Rattle.std.specs.Prelude.{ℕ, ◌+◌, ◌*◌, ◌/◌, ◌%◌, min, Bool, true, false, List, [], ◌∷◌, ◌++◌, map, length, take, drop, vec_items, slice_index}
use Rattle.std.specs.List.{range_with_len}
use Rattle.device.specs.declared.sector.Sector.{Sector}
use Rattle.device.specs.declared.flat_image.FlatImage.{FlatImage}
use Rattle.device.specs.declared.flat_reader.FlatReader.{FlatReader}
use Rattle.device.specs.Device.{Medium}

abbrev pub byte_at : List ℕ → ℕ → ℕ
byte_at bs i = slice_index bs i % 256

abbrev pub frame : List ℕ → ℕ → Sector
frame bs n = record {
  bytes = map (λ k. byte_at bs (132 * n + k)) (range_with_len 0 128);
  back = byte_at bs (132 * n + 128) + 256 * byte_at bs (132 * n + 129);
  forward = byte_at bs (132 * n + 130) + 256 * byte_at bs (132 * n + 131);
}

-- whole frames, at most 65,535
abbrev pub frame_count : List ℕ → ℕ
frame_count bs = min (length bs / 132) 65535

-- the sectors of a buffer
abbrev pub frames : List ℕ → List Sector
frames bs = map (frame bs) (range_with_len 0 (frame_count bs))

abbrev pub flat : List ℕ → Bool → Bool → Medium
flat bs d t = record { sectors = map (frame bs) (range_with_len 0 (frame_count bs)); door = d; tab = t }

abbrev pub flat_medium : FlatImage → Medium
flat_medium d = flat (vec_items d.bytes) d.door d.tab

-- held for reading only: the door is closed, and the tab is on
abbrev pub reader_medium : FlatReader → Medium
reader_medium d = flat d.bytes.now false true

-- the 132 bytes of one sector
abbrev pub frame_bytes : Sector → List ℕ
frame_bytes s = s.bytes ++ (s.back % 256 ∷ s.back / 256 ∷ s.forward % 256 ∷ s.forward / 256 ∷ [])

-- the buffer with frame n replaced
abbrev pub with_frame : List ℕ → ℕ → Sector → List ℕ
with_frame bs n s = take (132 * n) bs ++ (frame_bytes s ++ drop (132 * n + 132) bs)
