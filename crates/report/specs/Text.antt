-- Every character of what is shown.
use Rattle.std.specs.Prelude.{ℕ, ◌+◌, ◌*◌, ◌/◌, ◌%◌, ◌^◌, cond, List, [], ◌∷◌, ◌++◌, map, length, take, drop, Some, None, Option, vec_items, codes, ◌==◌, nat_lt, slice_index}
use Rattle.std.specs.List.{range_with_len, concat, flat_map}
use Rattle.device.specs.Codes.{code_number, layer_number}
use Rattle.device.specs.declared.sector.Sector.{Sector}
use Rattle.drive.specs.declared.answer.Answer.{Answer}
use Rattle.drive.specs.declared.request.Exchange.{Exchange}
use Rattle.drive.specs.declared.request.Request.{Request}
use Rattle.drive.specs.declared.request.Request.TheVariants.{Format, Door, Tab, Status}
use Rattle.drive.specs.declared.request.Usage.{Usage}
use Rattle.report.specs.Digits.{hex_byte, hex_word, base_ten}

abbrev pub newline : List ℕ
newline = 0x0A ∷ []

abbrev pub numbers_text : ℕ → ℕ → ℕ → ℕ → List ℕ
numbers_text code len layer sector =
    concat (codes "CODE=" ∷ hex_byte code ∷ codes " LENGTH=" ∷ base_ten len ∷ codes " LAYER=" ∷ base_ten layer ∷ codes " SECTOR=" ∷ hex_word sector ∷ [])

abbrev pub answer_text : Answer → List ℕ
answer_text a = numbers_text (code_number a.code) a.length (layer_number a.layer) a.sector

-- a byte that no character is printed for is shown as a point
abbrev pub shown_byte : ℕ → ℕ
shown_byte b = cond (nat_lt b 0x20) 0x2E (cond (nat_lt b 0x7F) b 0x2E)

abbrev pub format_text : List ℕ → List ℕ
format_text id = codes "FORMAT ID=" ++ map shown_byte id

abbrev pub request_text : Request → List ℕ
request_text (Format id) = format_text (vec_items id)
request_text (Door is_open) = cond is_open (codes "DOOR OPEN") (codes "DOOR CLOSED")
request_text (Tab is_on) = cond is_on (codes "TAB ON") (codes "TAB OFF")
request_text Status = codes "STATUS"

abbrev pub usage_text : Usage → List ℕ
usage_text u = concat (codes "FREE=" ∷ base_ten u.free ∷ codes " USED=" ∷ base_ten u.used ∷ codes " FILES=" ∷ base_ten u.files ∷ [])

-- what was reported, on a line below the answer
abbrev pub reported_text : Option Usage → List ℕ
reported_text None = []
reported_text (Some u) = concat (codes "  " ∷ usage_text u ∷ newline ∷ [])

-- a request, and below it its answer and what was reported
abbrev pub exchange_text : Exchange → List ℕ
exchange_text x = concat (request_text x.request ∷ newline ∷ codes "  " ∷ answer_text x.answer ∷ newline ∷ reported_text x.reported ∷ [])

abbrev pub exchanges_text : List Exchange → List ℕ
exchanges_text xs = flat_map exchange_text xs

abbrev pub link_text : ℕ → Sector → List ℕ
link_text n s = concat (codes "SECTOR=" ∷ hex_word n ∷ codes " BACK=" ∷ hex_word s.back ∷ codes " FORWARD=" ∷ hex_word s.forward ∷ [])

abbrev pub place_text : ℕ → ℕ → List ℕ
place_text n at = concat (codes "SECTOR=" ∷ hex_word n ∷ codes " PLACE=" ∷ hex_word at ∷ [])

-- a name and a number of records
abbrev pub file_text : List ℕ → ℕ → List ℕ
file_text name records = concat (map shown_byte name ∷ codes ":" ∷ base_ten records ∷ [])

abbrev pub size_text : ℕ → List ℕ
size_text n = concat (codes "S=" ∷ base_ten n ∷ [])

-- a byte with the blank before it
abbrev pub hex_cell : ℕ → List ℕ
hex_cell b = codes " " ++ hex_byte b

abbrev pub hex_cells : ℕ → List ℕ → List ℕ
hex_cells at bs = hex_word at ++ codes " " ++ concat (map hex_cell bs)

abbrev pub hex_line : ℕ → List ℕ → List ℕ
hex_line at bs = hex_cells at bs ++ newline

-- line k, of the sixteen bytes from 16 × k; four digits show the offset modulo 65,536
abbrev pub hex_line_of : List ℕ → ℕ → List ℕ
hex_line_of bs k = hex_line (16 * k % 65536) (take 16 (drop (16 * k) bs))

abbrev pub hex_text : List ℕ → List ℕ
hex_text bs = concat (map (hex_line_of bs) (range_with_len 0 ((length bs + 15) / 16)))

-- `#` where the bit of sector n is 1, else a point
abbrev pub map_mark : List ℕ → ℕ → ℕ
map_mark bs n = cond (slice_index bs (n / 8) / 2 ^ (n % 8) % 2 == 1) 0x23 0x2E

-- a mark for each sector
abbrev pub marks : List ℕ → List ℕ
marks bs = map (map_mark bs) (range_with_len 0 (8 * length bs))

abbrev pub map_line : ℕ → List ℕ → List ℕ
map_line first bs = hex_word first ++ codes "  " ++ marks bs ++ newline

-- line k, of the eight bytes from 8 × k, and so of the sectors from 64 × k
abbrev pub map_line_of : List ℕ → ℕ → List ℕ
map_line_of bs k = map_line (64 * k % 65536) (take 8 (drop (8 * k) bs))

abbrev pub map_text : List ℕ → List ℕ
map_text bs = concat (map (map_line_of bs) (range_with_len 0 ((length bs + 7) / 8)))
