-- A file emptied: its descriptor, written with no records, is the layout with the file empty.
use Rattle.std.proofs.Common.{◌≡◌, ℕ, ◌<◌, ◌≤◌, true, ◌&&◌, ltb, leb, List, [], length, get_or, set, Some, None, Option, sym, ap, ◌∙◌, subst, ⊎_elim, arith}
use Rattle.std.proofs.lemmas.Bool.{and_parts, leb-true, ltb-true, cases_eq}
use Rattle.std.proofs.lemmas.List.{get_or-set_same, get_or-set_other, set-set}
use Rattle.device.specs.Device.{blank}
use Rattle.chains.specs.Layout.{Disk, Layout, Entry, reserved, numbers, chains, place_bytes, directory, label_and_map, fixed_sectors, overwritten, Contains}
use Rattle.chains.specs.Changes.{LaidOut, located, descriptor_sector}
use Rattle.rules.specs.Effects.{with_places, in_file}
use Rattle.rules.proofs.Lookups.{listed_at}
use Rattle.rules.proofs.Relaid.{set_over, beside, past_directory, past_label_and_map, directory_alike, in_parts_chains, from_parts, label_part, directory_shows, chains_part, chains_with, chains_without, chains_placed, descriptor_among, descriptor_alone, all_at}

-- for the file f at the place p
module _ (d : Layout) (ss : Disk) (laid : LaidOut d ss) (p : ℕ) (f : Entry) (within : p < length d.places) (there : get_or d.places p None ≡ Some f) where
  abbrev empty_entry : Entry
  empty_entry = record { name = f.name; at = f.at; records = [] }

  abbrev places_emptied : List (Option Entry)
  places_emptied = set d.places p (Some empty_entry)

  abbrev described : Disk
  described = set ss f.at (descriptor_sector empty_entry)

  usable : (leb reserved f.at && ltb f.at d.size) ≡ true
  usable = all_at (λ m. (leb reserved m && ltb m d.size) ≡ true) f.at (numbers (chains d.places)) laid.proper.usable (descriptor_among d.places p f there)

  low : 36 ≤ f.at
  low = leb-true 36 f.at (and_parts (leb reserved f.at) (ltb f.at d.size) usable).0

  high : f.at < d.size
  high = ltb-true f.at d.size (and_parts (leb reserved f.at) (ltb f.at d.size) usable).1

  -- the directory does not tell how many records a file has
  place_same : (k : ℕ) → place_bytes (get_or d.places k None) ≡ place_bytes (get_or places_emptied k None)
  place_same k =
      ⊎_elim
      (λ (e : k ≡ p).
      subst (λ j. place_bytes (get_or d.places j None) ≡ place_bytes (get_or places_emptied j None)) (sym e)
      (ap place_bytes there ∙ ap place_bytes (sym (get_or-set_same d.places p (Some empty_entry) None within))))
      (λ (ne : k ≡ p → ⊥). ap place_bytes (sym (get_or-set_other d.places p k (Some empty_entry) None ne)))
      (cases_eq k p)

  label_stands : Contains (label_and_map d) described
  label_stands = beside (label_and_map d) ss f.at (descriptor_sector empty_entry) (past_label_and_map d f.at (omega (arith, low))) (label_part d ss laid.shows)

  directory_stands : Contains (directory places_emptied) described
  directory_stands =
      subst (λ xs. Contains xs described) (directory_alike d.places places_emptied place_same)
      (beside (directory d.places) ss f.at (descriptor_sector empty_entry) (past_directory d.places f.at low) (directory_shows d ss laid.shows))

  other_chains_stand : Contains (chains (set d.places p None)) described
  other_chains_stand =
      beside (chains (set d.places p None)) ss f.at (descriptor_sector empty_entry) (descriptor_alone d.places p f laid.proper.apart there)
      (chains_without (λ x. get_or ss x.number blank ≡ x.content) d.places p (chains_part d ss laid.shows))

  chains_stand : Contains (chains places_emptied) described
  chains_stand =
      subst (λ es. Contains (chains es) described) (set-set d.places p None (Some empty_entry))
      (chains_with (λ x. get_or described x.number blank ≡ x.content) (set d.places p None) p empty_entry other_chains_stand
      (get_or-set_same ss f.at (descriptor_sector empty_entry) blank (omega (arith, high, laid.size)), tt))

  emptied_in_place : described ≡ overwritten (fixed_sectors (with_places d places_emptied)) ss
  emptied_in_place =
      let d' : Layout = with_places d places_emptied in
      set_over (fixed_sectors d') ss f.at (descriptor_sector empty_entry)
      (in_parts_chains d' f.at (chains_placed d.places p empty_entry within)) (from_parts d' described label_stands directory_stands chains_stand)

module _ (d : Layout) (ss : Disk) (laid : LaidOut d ss) (n : List ℕ) (p a : ℕ) (seen : located n 0 d.places ≡ Some (record { place = p; descriptor = a })) where
  -- the file of that name
  abbrev pub file_located : Entry
  file_located = (listed_at n d.places p a laid.proper.distinct seen).file

  pub located_there : get_or d.places p None ≡ Some file_located
  located_there = (listed_at n d.places p a laid.proper.distinct seen).entry

  pub located_name : file_located.name ≡ n
  located_name = sym (listed_at n d.places p a laid.proper.distinct seen).name

  pub located_descriptor : file_located.at ≡ a
  located_descriptor = (listed_at n d.places p a laid.proper.distinct seen).at

  emptied_there : set ss file_located.at (descriptor_sector (record { name = file_located.name; at = file_located.at; records = [] })) ≡ overwritten (fixed_sectors (with_places d (in_file n (λ _. []) d.places))) ss
  emptied_there =
      let s = listed_at n d.places p a laid.proper.distinct seen in
      subst (λ es. set ss s.file.at (descriptor_sector (record { name = s.file.name; at = s.file.at; records = [] })) ≡ overwritten (fixed_sectors (with_places d es)) ss)
      (sym (s.changed (λ _. []))) (emptied_in_place d ss laid p s.file s.within s.entry)

  pub emptied : set ss a (descriptor_sector (record { name = file_located.name; at = a; records = [] })) ≡ overwritten (fixed_sectors (with_places d (in_file n (λ _. []) d.places))) ss
  emptied =
      subst (λ m. set ss m (descriptor_sector (record { name = file_located.name; at = m; records = [] })) ≡ overwritten (fixed_sectors (with_places d (in_file n (λ _. []) d.places))) ss)
      located_descriptor emptied_there

  -- the same by the name that was looked for
  pub emptied_named : set ss a (descriptor_sector (record { name = n; at = a; records = [] })) ≡ overwritten (fixed_sectors (with_places d (in_file n (λ _. []) d.places))) ss
  emptied_named =
      subst (λ m. set ss a (descriptor_sector (record { name = m; at = a; records = [] })) ≡ overwritten (fixed_sectors (with_places d (in_file n (λ _. []) d.places))) ss)
      located_name emptied
