-- What the contracts say, about their own text (`Post`, as the check reads it: the arguments a, the result r, and the parameters
-- at exit s): the definitions of the demands' theorems, with the satellites' own registers, and of Paper.antt, of what the call was
-- given, uncut.
-- Assumes nothing.
use mathlib.Core.Path.{◌≡◌}
use mathlib.Core.List.{[], ◌∷◌}
use Rattle.bits.specs.Bits.{Bytes}
use Rattle.satellites.specs.Satellites.{known}
use Rattle.frames.specs.Registers.{register_of}
use Rattle.frames.specs.Reading.{reading_by, room_after_by}
use Rattle.frames.specs.Writing.{writing, output_after_by}
use Rattle.frames.specs.Editing.{editing_by, frame_after_by}
use Rattle.temperatures.specs.Readings.{answering, values_in}
use Rattle.temperatures.specs.Summaries.{day_of}
use Rattle.tolimbar.specs.Answers.{told_in_c, placed}
use Rattle.tolimbar_c.proofs.tolimbar_read.Reads as read
use Rattle.tolimbar_c.proofs.tolimbar_write.Reads as write
use Rattle.tolimbar_c.proofs.tolimbar_edit.Reads as edit
use Rattle.tolimbar_c.proofs.tolimbar_temperature.Reads as temperature
use Rattle.tolimbar_c.proofs.tolimbar_summary.Reads as summary

pub read-says : (κs a r s : _) → read.Post κs a r s
    → let told = reading_by register_of (known a.0) a.1.0.now a.1.1.0.now in
    (r ≡ record { refusal = told.refusal; ty = told.ty; count = told.count })
    × ((s.1.1.0.now ≡ room_after_by register_of (known a.0) a.1.0.now a.1.1.0.now)
    × ((s.1.0.now ≡ a.1.0.now) × Bytes a.1.0.now))
read-says κs a r s p = p

pub write-says : (κs a r s : _) → write.Post κs a r s
    → let told = writing (known a.0) a.1.0 a.1.1.0.now a.1.1.1.0.now in
    (r ≡ record { refusal = told.refusal; answer = told.answer })
    × ((s.1.1.1.0.now ≡ output_after_by register_of (known a.0) a.1.0 a.1.1.0.now a.1.1.1.0.now)
    × (s.1.1.0.now ≡ a.1.1.0.now))
write-says κs a r s p = p

pub edit-says : (κs a r s : _) → edit.Post κs a r s
    → let told = editing_by register_of (known a.0) a.1.0.now a.1.1.0 a.1.1.1.0 in
    (r ≡ record { refusal = told.refusal; answer = told.answer })
    × ((s.1.0.now ≡ frame_after_by register_of (known a.0) a.1.0.now a.1.1.0 a.1.1.1.0)
    × Bytes a.1.0.now)
edit-says κs a r s p = p

pub temperature-says : (κs a r s : _) → temperature.Post κs a r s
    → (r ≡ told_in_c (answering a.0)) × (s.1.0.now ≡ placed (values_in (answering a.0)).degrees a.1.0.now)
temperature-says κs a r s p = p

pub summary-says : (κs a r s : _) → summary.Post κs a r s
    → let day = day_of a.0.now in
    (r ≡ record { refusal = day.refusal; place = day.place })
    × ((s.1.0.now ≡ day.summary.coldest ∷ day.summary.warmest ∷ [])
    × ((s.1.1.0.now ≡ day.summary.count ∷ []) × (s.0.now ≡ a.0.now)))
summary-says κs a r s p = p

-- ---- each call is one of the function of this name in the crate tolimbar: it promises what that one does

pub read-as-called : (κs a r s : _) → read.Post κs a r s → Rattle.tolimbar.proofs.tolimbar_read.Reads.Post κs a r s
read-as-called κs a r s p = p

pub write-as-called : (κs a r s : _) → write.Post κs a r s → Rattle.tolimbar.proofs.tolimbar_write.Reads.Post κs a r s
write-as-called κs a r s p = p

pub edit-as-called : (κs a r s : _) → edit.Post κs a r s → Rattle.tolimbar.proofs.tolimbar_edit.Reads.Post κs a r s
edit-as-called κs a r s p = p

pub temperature-as-called : (κs a r s : _) → temperature.Post κs a r s
    → Rattle.tolimbar.proofs.tolimbar_temperature.Reads.Post κs a r s
temperature-as-called κs a r s p = p

pub summary-as-called : (κs a r s : _) → summary.Post κs a r s → Rattle.tolimbar.proofs.tolimbar_summary.Reads.Post κs a r s
summary-as-called κs a r s p = p
