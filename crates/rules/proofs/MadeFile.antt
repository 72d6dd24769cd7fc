-- A new file: its descriptor and the sector of its place, written, are the layout with the file in the lowest empty place.
use Rattle.std.proofs.Common.{◌≡◌, ℕ, ◌+◌, ◌/◌, ◌<◌, ◌≤◌, false, List, [], length, get_or, set, Some, Option, sym, ◌∙◌, subst, arith}
use Rattle.std.proofs.lemmas.List.{get_or-set_same, get_or-set_other, length-set}
use Rattle.device.specs.Device.{blank}
use Rattle.chains.specs.Layout.{Disk, Layout, Entry, member, numbers, chains, directory, label_and_map, fixed_sectors, overwritten, Contains}
use Rattle.chains.specs.Changes.{LaidOut, first_empty, directory_sector, descriptor_sector}
use Rattle.rules.specs.Effects.{with_places, lowest}
use Rattle.rules.proofs.Lookups.{empty_at}
use Rattle.rules.proofs.Relaid.{sets_over, beside, past_directory, past_label_and_map, place_written, in_parts_directory, in_parts_chains, from_parts, label_part, directory_shows, chains_part, chains_with, chains_placed, none_reserved, large}

module _ (d : Layout) (ss : Disk) (laid : LaidOut d ss) (p : ℕ) (empty : first_empty 0 d.places ≡ Some p) (n : List ℕ) (a : ℕ) where
  abbrev new_entry : Entry
  new_entry = record { name = n; at = a; records = [] }

  abbrev places_with : List (Option Entry)
  places_with = set d.places p (Some new_entry)

  pub made_places : lowest new_entry d.places ≡ places_with
  made_places = (empty_at d.places p empty).lowest_is new_entry

  module _ (low : 36 ≤ a) (high : a < d.size) (unused : member a (numbers (chains d.places)) ≡ false) where
    place_in : p < 96
    place_in = omega (arith, (empty_at d.places p empty).within, laid.proper.places)

    abbrev described : Disk
    described = set ss a (descriptor_sector new_entry)

    abbrev listed : Disk
    listed = set described (4 + p / 3) (directory_sector places_with (p / 3))

    in_disk : 4 + p / 3 < length described
    in_disk = simp length-set (omega (arith, laid.size, large d laid.proper, place_in))

    descriptor_stands : get_or listed a blank ≡ descriptor_sector new_entry
    descriptor_stands =
        get_or-set_other described (4 + p / 3) a (directory_sector places_with (p / 3)) blank (λ e. omega (arith, place_in)) ∙
        get_or-set_same ss a (descriptor_sector new_entry) blank (omega (arith, laid.size))

    label_stands : Contains (label_and_map d) listed
    label_stands =
        beside (label_and_map d) described (4 + p / 3) (directory_sector places_with (p / 3)) (past_label_and_map d (4 + p / 3) (omega arith))
        (beside (label_and_map d) ss a (descriptor_sector new_entry) (past_label_and_map d a (omega arith)) (label_part d ss laid.shows))

    directory_stands : Contains (directory places_with) listed
    directory_stands =
        place_written d.places described p (Some new_entry) in_disk
        (beside (directory d.places) ss a (descriptor_sector new_entry) (past_directory d.places a low) (directory_shows d ss laid.shows))

    old_chains_stand : Contains (chains d.places) listed
    old_chains_stand =
        beside (chains d.places) described (4 + p / 3) (directory_sector places_with (p / 3)) (none_reserved (4 + p / 3) d.size (numbers (chains d.places)) (omega (arith, place_in)) laid.proper.usable)
        (beside (chains d.places) ss a (descriptor_sector new_entry) unused (chains_part d ss laid.shows))

    chains_stand : Contains (chains places_with) listed
    chains_stand = chains_with (λ x. get_or listed x.number blank ≡ x.content) d.places p new_entry old_chains_stand (descriptor_stands, tt)

    made_in_place : listed ≡ overwritten (fixed_sectors (with_places d places_with)) ss
    made_in_place =
        let d' : Layout = with_places d places_with in
        sets_over (fixed_sectors d') ss a (4 + p / 3) (descriptor_sector new_entry) (directory_sector places_with (p / 3))
        (in_parts_chains d' a (chains_placed d.places p new_entry (empty_at d.places p empty).within)) (in_parts_directory d' (p / 3) (omega (arith, place_in)))
        (from_parts d' listed label_stands directory_stands chains_stand)

    pub made : set (set ss a (descriptor_sector new_entry)) (4 + p / 3) (directory_sector (set d.places p (Some new_entry)) (p / 3)) ≡ overwritten (fixed_sectors (with_places d (lowest new_entry d.places))) ss
    made = subst (λ es. listed ≡ overwritten (fixed_sectors (with_places d es)) ss) (sym made_places) made_in_place
