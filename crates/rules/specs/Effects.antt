-- How each call that writes changes the layout of the disk. Only the sectors taken from free space are left open.
use Rattle.std.specs.Prelude.{ℕ, zero, suc, ◌+◌, ◌-◌, min, max, cond, List, [], ◌∷◌, ◌++◌, length, take, drop, Some, None, Option, ◌==◌, slice_index}
use Rattle.chains.specs.Names.{same}
use Rattle.chains.specs.Layout.{Layout, Entry, Placed, allocated, map_bytes, formatted, record_bytes}
use Rattle.rules.specs.Model.{Model, Request, Format, Initialize, Door, Tab, Status, Open, Close, Rewind, Read, Write, WriteCurrent, Delete, ReadCurrent, ReadPrevious, SkipForward, SkipBackward, Erase, state, name_of, cursor_of, present, cut}

abbrev pub placed : List ℕ → List (List ℕ) → List Placed
placed [] rs = []
placed (n ∷ ns) [] = []
placed (n ∷ ns) (r ∷ rs) = record { at = n; bytes = r } ∷ placed ns rs

abbrev pub with_places : Layout → List (Option Entry) → Layout
with_places d es = record { id = d.id; size = d.size; reserved_links = d.reserved_links; map = d.map; places = es }

-- the map sectors written anew
abbrev pub saved : Layout → Layout
saved d = record { id = d.id; size = d.size; reserved_links = d.reserved_links; map = map_bytes (allocated d.size d.places); places = d.places }

abbrev pub lowest : Entry → List (Option Entry) → List (Option Entry)
lowest f [] = []
lowest f (None ∷ es) = Some f ∷ es
lowest f (Some g ∷ es) = Some g ∷ lowest f es

abbrev pub in_file : List ℕ → (List Placed → List Placed) → List (Option Entry) → List (Option Entry)
in_file n g [] = []
in_file n g (None ∷ es) = None ∷ in_file n g es
in_file n g (Some f ∷ es) = cond (same n f.name) (Some (record { name = f.name; at = f.at; records = g f.records })) (Some f) ∷ in_file n g es

abbrev pub erased : List ℕ → List (Option Entry) → List (Option Entry)
erased n [] = []
erased n (None ∷ es) = None ∷ erased n es
erased n (Some f ∷ es) = cond (same n f.name) None (Some f) ∷ erased n es

abbrev pub rewritten : ℕ → List ℕ → List Placed → List Placed
rewritten i bs [] = []
rewritten zero bs (p ∷ ps) = record { at = p.at; bytes = bs } ∷ ps
rewritten (suc i) bs (p ∷ ps) = p ∷ rewritten i bs ps

-- the layout that a call leaves, by the sectors that it took, or None where it writes nothing
abbrev pub layout_after : Layout → Model → Request → List ℕ → List ℕ → Option Layout
layout_after d b (Format id) buf taken = Some (formatted id b.size)
layout_after d b Initialize buf taken = None
layout_after d b (Door x) buf taken = None
layout_after d b (Tab x) buf taken = None
layout_after d b Status buf taken = None
layout_after d b (Open u n k) buf taken =
    cond (present b n)
    (cond (k == 2) (Some (with_places d (in_file n (λ _. []) d.places))) None)
    (Some (with_places d (lowest (record { name = n; at = slice_index taken 0; records = [] }) d.places)))
layout_after d b (Close u) buf taken = cond b.changed (Some (saved d)) None
layout_after d b (Rewind u) buf taken = None
layout_after d b (Read u n) buf taken = None
layout_after d b (Write u n) buf taken =
    let c = cursor_of (state b u) in
    Some (with_places d (in_file (name_of (state b u)) (λ ps. take c ps ++ (placed taken (cut record_bytes (length taken) buf) ++ drop c ps)) d.places))
layout_after d b (WriteCurrent u) buf taken =
    Some (with_places d (in_file (name_of (state b u)) (rewritten (cursor_of (state b u) - 1) (take record_bytes buf)) d.places))
layout_after d b (Delete u n) buf taken =
    let before = max (cursor_of (state b u)) 1 - 1 in
    cond (n == 0) None
    (Some (with_places d (in_file (name_of (state b u)) (λ ps. take before ps ++ drop (before + min n (length ps - before)) ps) d.places)))
layout_after d b (ReadCurrent u) buf taken = None
layout_after d b (ReadPrevious u) buf taken = None
layout_after d b (SkipForward u n) buf taken = None
layout_after d b (SkipBackward u n) buf taken = None
layout_after d b (Erase n) buf taken = Some (saved (with_places d (erased n d.places)))
