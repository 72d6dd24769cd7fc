-- A file erased: the sector of its place written, and then the map saved, are the layout without the file.
use Rattle.std.proofs.Common.{◌≡◌, ℕ, ◌+◌, ◌/◌, ◌<◌, true, false, List, [], length, get_or, set, Some, None, Option, sym, refl, ◌∙◌, subst, arith}
use Rattle.device.specs.Device.{blank}
use Rattle.chains.specs.Layout.{Disk, Layout, Entry, numbers, chains, directory, label_and_map, fixed_sectors, overwritten, Contains}
use Rattle.chains.specs.Sound.{ValidLayout}
use Rattle.chains.specs.Changes.{LaidOut, located, directory_sector}
use Rattle.rules.specs.Model.{Model, without}
use Rattle.rules.specs.Effects.{with_places, saved, erased}
use Rattle.rules.specs.Runs.{files_in}
use Rattle.rules.proofs.Rearranging.{as_is}
use Rattle.rules.proofs.Changes.{matches_erased}
use Rattle.rules.proofs.Lookups.{listed_at}
use Rattle.rules.proofs.Relaid.{over_forgets, set_over, beside, past_label_and_map, place_written, in_parts_directory, from_parts, label_part, directory_shows, chains_part, chains_without, none_reserved, large, laid_over}
use Rattle.rules.proofs.SavedMap.{with_map_saved, saved_map}

-- a layout stays valid without a file: that is known of the model with these files
pub proper_erased : (d : Layout) (n : List ℕ) → ValidLayout d → ValidLayout (with_places d (erased n d.places))
proper_erased d n p =
    let b : Model = record { size = d.size; door = false; tab = false; initialized = true; changed = false; files = files_in d.places; units = [] } in
    let b' : Model = record { size = d.size; door = false; tab = false; initialized = true; changed = false; files = without n (files_in d.places); units = [] } in
    let q : ValidLayout (saved (with_places d (erased n d.places))) = (matches_erased b b' d n (record { proper = p; size = refl; files = as_is (files_in d.places) }) refl refl).proper in
    record {
      size = q.size;
      id = q.id;
      reserved_links = q.reserved_links;
      map = p.map;
      places = q.places;
      names = q.names;
      distinct = q.distinct;
      usable = q.usable;
      apart = q.apart;
      records = q.records;
    }

-- the place p emptied
module _ (d : Layout) (ss : Disk) (laid : LaidOut d ss) (p : ℕ) (within : p < length d.places) where
  abbrev places_without : List (Option Entry)
  places_without = set d.places p None

  abbrev unlisted : Disk
  unlisted = set ss (4 + p / 3) (directory_sector places_without (p / 3))

  place_in : p < 96
  place_in = omega (arith, laid.proper.places)

  unlisted_in_place : unlisted ≡ overwritten (fixed_sectors (with_places d places_without)) ss
  unlisted_in_place =
      let d' : Layout = with_places d places_without in
      let s = directory_sector places_without (p / 3) in
      let label : Contains (label_and_map d) unlisted = beside (label_and_map d) ss (4 + p / 3) s (past_label_and_map d (4 + p / 3) (omega arith)) (label_part d ss laid.shows) in
      let listing : Contains (directory places_without) unlisted = place_written d.places ss p None (omega (arith, place_in, laid.size, large d laid.proper)) (directory_shows d ss laid.shows) in
      let old : Contains (chains d.places) unlisted = beside (chains d.places) ss (4 + p / 3) s (none_reserved (4 + p / 3) d.size (numbers (chains d.places)) (omega (arith, place_in)) laid.proper.usable) (chains_part d ss laid.shows) in
      set_over (fixed_sectors d') ss (4 + p / 3) s (in_parts_directory d' (p / 3) (omega (arith, place_in)))
      (from_parts d' unlisted label listing (chains_without (λ x. get_or unlisted x.number blank ≡ x.content) d.places p old))

module _ (d : Layout) (ss : Disk) (laid : LaidOut d ss) (n : List ℕ) (p a : ℕ) (seen : located n 0 d.places ≡ Some (record { place = p; descriptor = a })) where
  abbrev pub without_file : Layout
  without_file = with_places d (erased n d.places)

  abbrev pub place_cleared : Disk
  place_cleared = set ss (4 + p / 3) (directory_sector (set d.places p None) (p / 3))

  pub erased_places : erased n d.places ≡ set d.places p None
  erased_places = (listed_at n d.places p a laid.proper.distinct seen).gone

  pub cleared : place_cleared ≡ overwritten (fixed_sectors without_file) ss
  cleared =
      subst (λ es. place_cleared ≡ overwritten (fixed_sectors (with_places d es)) ss) (sym erased_places)
      (unlisted_in_place d ss laid p (listed_at n d.places p a laid.proper.distinct seen).within)

  pub cleared_laid_out : LaidOut without_file place_cleared
  cleared_laid_out = laid_over without_file ss place_cleared (proper_erased d n laid.proper) laid.size cleared

  -- with the map saved after it
  pub erased_saved : with_map_saved without_file place_cleared ≡ overwritten (fixed_sectors (saved without_file)) ss
  erased_saved =
      let place_in : p < 96 = omega (arith, (listed_at n d.places p a laid.proper.distinct seen).within, laid.proper.places) in
      saved_map without_file place_cleared cleared_laid_out ∙
      over_forgets (fixed_sectors (saved without_file)) ss (4 + p / 3) (directory_sector (set d.places p None) (p / 3)) (in_parts_directory (saved without_file) (p / 3) (omega arith))
