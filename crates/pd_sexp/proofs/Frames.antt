-- The open lists of a reader, and one more.
use Rattle.std.proofs.Common.{◌≡◌, List, [], ◌∷◌, ◌++◌, map, reverse, length, ap, ◌∙◌}
use Rattle.std.proofs.lemmas.List.{map-append, reverse-append, length-reverse, length-map}
use Rattle.pd_sexp.specs.declared.reader.Frame.{Frame}
use Rattle.pd_sexp.specs.own.Reader.{frame_of, outer_of}

pub outer_of-push : (frames : List Frame) (frame : Frame) → outer_of (frames ++ frame ∷ []) ≡ frame_of frame ∷ outer_of frames
outer_of-push frames frame = ap reverse (map-append frame_of frames (frame ∷ [])) ∙ reverse-append (map frame_of frames) (frame_of frame ∷ [])

pub length-outer_of : (frames : List Frame) → length (outer_of frames) ≡ length frames
length-outer_of frames = length-reverse (map frame_of frames) ∙ length-map frames frame_of

pub ruleset last_frame = (outer_of-push)
