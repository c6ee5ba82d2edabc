-- The SplitLess module, source 001, line by line, in its own names. A number behind `--` is the module's line. Nothing of ours is imported.
--   State       lines 4 to 117: constants, records, Init, helper functions.
--   Actions     lines 124 to 375: of each of the eleven actions when it is enabled, and the newReplica that it gives.
--   Steps       lines 382 to 468 and 624: the merge, Next and Spec.
--   Properties  lines 476 to 618: the invariants and the three safety properties.
--   Gifts       lines 34, 35, 89, 107 to 117, 162, 408 to 421, 500: the stored gifts, beside all this.
-- Left out, each for a reason of document 01 or of the printing:
--   Stored gifts, out of State, Actions, Steps and Properties: 34, 35, 107, 108, 111 to 117, 134, 135, 166, 236, 262 to 265, 286, 307, 348, 420, 421. "Gifts are
--   worked out afresh; the module stores them and may hold stale ones after a rejoin." So a group has no field for them there, and line 89 takes off the gift of
--   the moment. Gifts and specs/Stored have them as the module does; 238, 268, 289, 310 and 351 put RecalcGifts' result in place.
--   actionCounter: 14, 54 and the last lines of each action. It is never read: it bounds the model checker's search. (312 and 313 contradict each other;
--   source 000's appendix has 313 alone.)
--   26, 398 to 406 and 494 ("remove this?"): commented out. 001's printing dropped the comment marks; 000's appendix has 27 alone for the shares, no lines
--   like 398 to 406, and no conjunct like 494 (its lines 479 to 485).
--   234, 254 and 259 are cut at the page's edge; 000's appendix has them whole (its lines 234 to 236, 256 and 261).
--   Liveness, 520 to 572, and fairness, 626 to 631: whether messages arrive at last is not in a library's power, and document 01 asks nothing of it.
pub mod State
pub mod Actions
pub mod Steps
pub mod Properties
pub mod Gifts
unfoldable pub use State.*
unfoldable pub use Actions.*
unfoldable pub use Steps.*
unfoldable pub use Properties.*
unfoldable pub use Gifts.*
