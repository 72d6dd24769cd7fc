-- Worked examples of the rules, in one statement.
use Rattle.std.specs.Prelude.{◌≡◌, ℕ, false, List, [], ◌∷◌, ◌++◌, replicate, codes}
use Rattle.device.specs.Skew.{skewed}
use Rattle.rules.specs.Model.{Model, Request, Outcome, new_model, response, faulty, Format, Status, Open, Write, Rewind, Read, SkipBackward, Delete, free_count, state, cursor_of, records_of}

-- a call on a drive whose disk is not read
abbrev on : Model → Request → List ℕ → Outcome
on m q buf = response m (record { reading = faulty 0 0 }) q buf

abbrev after : Model → Request → List ℕ → Model
after m q buf = (on m q buf).after

abbrev blank_drive : ℕ → Model
blank_drive s = new_model s false false

abbrev formatted_drive : Model
formatted_drive = after (blank_drive 64) (Format (codes "EXAM 1")) []

abbrev one_file : Model
one_file = after formatted_drive (Open 0 (codes "VALVES.S") 1) []

abbrev three : List ℕ
three = replicate 128 1 ++ (replicate 128 2 ++ replicate 128 3)

abbrev written : Model
written = after one_file (Write 0 300) three

abbrev rewound : Model
rewound = after written (Rewind 0) []

-- on the second of three records
abbrev on_second : Model
on_second = after written (SkipBackward 0 1) []

abbrev at : Model → ℕ
at m = cursor_of (state m 0)

abbrev pub WorkedExamples : Type 0
WorkedExamples =
    -- sizes
    ((on (blank_drive 63) (Format (codes "EXAM 1")) []).code ≡ 0xE5) ×
    ((on (blank_drive 64) (Format (codes "EXAM 1")) []).code ≡ 0x80) ×
    ((on (blank_drive 2464) (Format (codes "EXAM 1")) []).code ≡ 0x80) ×
    ((on (blank_drive 2465) (Format (codes "EXAM 1")) []).code ≡ 0xE5) ×
    -- names
    ((on formatted_drive (Open 0 (replicate 32 65) 1) []).code ≡ 0x80) ×
    ((on formatted_drive (Open 0 (codes "a.b?_9") 1) []).code ≡ 0x80) ×
    ((on formatted_drive (Open 0 (replicate 33 65) 1) []).code ≡ 0xE2) ×
    ((on formatted_drive (Open 0 (codes "7UP") 1) []).code ≡ 0xE2) ×
    ((on formatted_drive (Open 0 [] 1) []).code ≡ 0xE2) ×
    -- a status after FORMAT
    ((on formatted_drive Status []).numbers ≡ 28 ∷ 36 ∷ 0 ∷ []) ×
    -- a WRITE of 300 bytes
    ((on one_file (Write 0 300) three).code ≡ 0x80) ×
    ((on one_file (Write 0 300) three).len ≡ 384) ×
    (at written ≡ 3) ×
    (free_count written ≡ 24) ×
    -- a READ past the last record, and one that ends on it
    ((on rewound (Read 0 512) (replicate 512 9)).code ≡ 0xC9) ×
    ((on rewound (Read 0 512) (replicate 512 9)).len ≡ 384) ×
    ((on rewound (Read 0 512) (replicate 512 9)).buffer ≡ three ++ replicate 128 9) ×
    ((on rewound (Read 0 384) (replicate 384 9)).code ≡ 0x80) ×
    -- skipping back
    ((on written (SkipBackward 0 3) []).code ≡ 0x80) ×
    (at (after written (SkipBackward 0 3) []) ≡ 0) ×
    ((on written (SkipBackward 0 4) []).code ≡ 0xD5) ×
    ((on written (SkipBackward 0 4) []).len ≡ 3) ×
    (at (after written (SkipBackward 0 4) []) ≡ 0) ×
    -- deleting
    ((on on_second (Delete 0 5) []).code ≡ 0xC9) ×
    ((on on_second (Delete 0 5) []).len ≡ 256) ×
    (at (after on_second (Delete 0 5) []) ≡ 1) ×
    (records_of (after rewound (Delete 0 1) []) (codes "VALVES.S") ≡ replicate 128 2 ∷ replicate 128 3 ∷ []) ×
    (at (after rewound (Delete 0 1) []) ≡ 0) ×
    -- long lengths
    ((on one_file (Read 0 65409) (replicate 65536 9)).code ≡ 0xC1) ×
    ((on one_file (Write 0 65409) (replicate 65536 9)).code ≡ 0xC1) ×
    ((on one_file (Write 0 65408) (replicate 65408 9)).code ≡ 0xD3) ×
    ((on one_file (Write 0 65408) (replicate 65408 9)).len ≡ 3456) ×
    -- the skew
    (skewed 64 33 ≡ 37) ×
    (skewed 64 7 ≡ 3)
