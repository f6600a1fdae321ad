-- The same for every public function of this model's crates.
-- crate device_16
pub use Rattle.device_16.proofs.Settled.{power-on-settles as device-16-power-on-settles}
pub use Rattle.device_16.proofs.Settled.{owned-place-settles as device-16-owned-place-settles}
pub use Rattle.device_16.proofs.Settled.{nexus-of-settles as device-16-nexus-of-settles}
pub use Rattle.device_16.proofs.Settled.{nexus-at-settles as device-16-nexus-at-settles}
pub use Rattle.device_16.proofs.Settled.{place-of-settles as device-16-place-of-settles}
pub use Rattle.device_16.proofs.Settled.{selected-settles as device-16-selected-settles}
pub use Rattle.device_16.proofs.Settled.{numbers-settles as device-16-numbers-settles}
pub use Rattle.device_16.proofs.Settled.{selected-set-settles as device-16-selected-set-settles}
-- crate words_16
pub use Rattle.words_16.proofs.Settled.{words-of-settles as words-16-words-of-settles}
pub use Rattle.words_16.proofs.Settled.{with-words-settles as words-16-with-words-settles}
pub use Rattle.words_16.proofs.Settled.{power-on-settles as words-16-power-on-settles}
pub use Rattle.words_16.proofs.Settled.{formed-settles as words-16-formed-settles}
-- crate marks_16
pub use Rattle.marks_16.proofs.Settled.{change-marks-settles as marks-16-change-marks-settles}
pub use Rattle.marks_16.proofs.Settled.{change-marks-in-settles as marks-16-change-marks-in-settles}
pub use Rattle.marks_16.proofs.Settled.{tell-settles as marks-16-tell-settles}
pub use Rattle.marks_16.proofs.Settled.{clear-settles as marks-16-clear-settles}
-- crate places_16
pub use Rattle.places_16.proofs.Settled.{own-place-settles as places-16-own-place-settles}
pub use Rattle.places_16.proofs.Settled.{room-for-settles as places-16-room-for-settles}
pub use Rattle.places_16.proofs.Settled.{room-asked-settles as places-16-room-asked-settles}
pub use Rattle.places_16.proofs.Settled.{take-page-settles as places-16-take-page-settles}
pub use Rattle.places_16.proofs.Settled.{none-due-settles as places-16-none-due-settles}
pub use Rattle.places_16.proofs.Settled.{release-by-settles as places-16-release-by-settles}
-- crate drive_16
pub use Rattle.drive_16.proofs.Settled.{power-on-settles as drive-16-power-on-settles}
pub use Rattle.drive_16.proofs.Settled.{security-in-known-settles as drive-16-security-in-known-settles}
pub use Rattle.drive_16.proofs.Settled.{security-in-settles as drive-16-security-in-settles}
pub use Rattle.drive_16.proofs.Settled.{check-page-settles as drive-16-check-page-settles}
pub use Rattle.drive_16.proofs.Settled.{security-out-known-settles as drive-16-security-out-known-settles}
pub use Rattle.drive_16.proofs.Settled.{security-out-settles as drive-16-security-out-settles}
pub use Rattle.drive_16.proofs.Settled.{write-known-settles as drive-16-write-known-settles}
pub use Rattle.drive_16.proofs.Settled.{write-settles as drive-16-write-settles}
pub use Rattle.drive_16.proofs.Settled.{read-known-settles as drive-16-read-known-settles}
pub use Rattle.drive_16.proofs.Settled.{read-settles as drive-16-read-settles}
pub use Rattle.drive_16.proofs.Settled.{unit-reset-known-settles as drive-16-unit-reset-known-settles}
pub use Rattle.drive_16.proofs.Settled.{unit-reset-settles as drive-16-unit-reset-settles}
pub use Rattle.drive_16.proofs.Settled.{happen-known-settles as drive-16-happen-known-settles}
pub use Rattle.drive_16.proofs.Settled.{happen-settles as drive-16-happen-settles}
pub use Rattle.drive_16.proofs.Settled.{serves-settles as drive-16-serves-settles}
-- crate record_16
pub use Rattle.record_16.proofs.Settled.{record-bytes-settles as record-16-record-bytes-settles}
pub use Rattle.record_16.proofs.Settled.{load-settles as record-16-load-settles}
-- crate reply_16
pub use Rattle.reply_16.proofs.Settled.{reply-with-settles as reply-16-reply-with-settles}
pub use Rattle.reply_16.proofs.Settled.{plain-settles as reply-16-plain-settles}
pub use Rattle.reply_16.proofs.Settled.{unknown-settles as reply-16-unknown-settles}
pub use Rattle.reply_16.proofs.Settled.{give-out-settles as reply-16-give-out-settles}
pub use Rattle.reply_16.proofs.Settled.{give-write-settles as reply-16-give-write-settles}
pub use Rattle.reply_16.proofs.Settled.{give-read-settles as reply-16-give-read-settles}
pub use Rattle.reply_16.proofs.Settled.{give-served-settles as reply-16-give-served-settles}
pub use Rattle.reply_16.proofs.Settled.{give-status-settles as reply-16-give-status-settles}
pub use Rattle.reply_16.proofs.Settled.{take-record-settles as reply-16-take-record-settles}
pub use Rattle.reply_16.proofs.Settled.{give-record-settles as reply-16-give-record-settles}
-- crate stream_16
pub use Rattle.stream_16.proofs.Settled.{obey-settles as stream-16-obey-settles}
-- crate calls_16
pub use Rattle.calls_16.proofs.Settled.{look-settles as calls-16-look-settles}
pub use Rattle.calls_16.proofs.Settled.{perform-settles as calls-16-perform-settles}
-- crate session_16
pub use Rattle.session_16.proofs.Settled.{run-settles as session-16-run-settles}
pub use Rattle.session_16.proofs.Settled.{replay-settles as session-16-replay-settles}
-- crate batch_16
pub use Rattle.batch_16.proofs.Settled.{batch-settles as batch-16-batch-settles}
-- crate claim_16
pub use Rattle.claim_16.proofs.Settled.{tally-settles as claim-16-tally-settles}
pub use Rattle.claim_16.proofs.Settled.{claim-settles as claim-16-claim-settles}
-- crate why_16
pub use Rattle.why_16.proofs.Settled.{follow-settles as why-16-follow-settles}
pub use Rattle.why_16.proofs.Settled.{why-settles as why-16-why-settles}
