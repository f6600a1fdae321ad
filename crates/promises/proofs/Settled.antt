-- For every public function of every crate without a size: any two outcomes that meet its promise are equal, the answer, the record
-- and each byte of what was lent. One line each; the promise is the one that the source states.
-- crate wire_code
pub use Rattle.wire_code.proofs.Settled.{byte-at-settles as wire-code-byte-at-settles}
pub use Rattle.wire_code.proofs.Settled.{word-settles as wire-code-word-settles}
pub use Rattle.wire_code.proofs.Settled.{number-settles as wire-code-number-settles}
pub use Rattle.wire_code.proofs.Settled.{word-at-settles as wire-code-word-at-settles}
pub use Rattle.wire_code.proofs.Settled.{two-settles as wire-code-two-settles}
pub use Rattle.wire_code.proofs.Settled.{four-settles as wire-code-four-settles}
pub use Rattle.wire_code.proofs.Settled.{wide-settles as wire-code-wide-settles}
pub use Rattle.wire_code.proofs.Settled.{eight-settles as wire-code-eight-settles}
pub use Rattle.wire_code.proofs.Settled.{put-settles as wire-code-put-settles}
pub use Rattle.wire_code.proofs.Settled.{show-settles as wire-code-show-settles}
pub use Rattle.wire_code.proofs.Settled.{padded-settles as wire-code-padded-settles}
pub use Rattle.wire_code.proofs.Settled.{all-zero-settles as wire-code-all-zero-settles}
pub use Rattle.wire_code.proofs.Settled.{zero-from-settles as wire-code-zero-from-settles}
pub use Rattle.wire_code.proofs.Settled.{is-length-wrong-settles as wire-code-is-length-wrong-settles}
pub use Rattle.wire_code.proofs.Settled.{number-at-settles as wire-code-number-at-settles}
pub use Rattle.wire_code.proofs.Settled.{part-settles as wire-code-part-settles}
pub use Rattle.wire_code.proofs.Settled.{rest-settles as wire-code-rest-settles}
-- crate text_code
pub use Rattle.text_code.proofs.Settled.{put-decimal-settles as text-code-put-decimal-settles}
pub use Rattle.text_code.proofs.Settled.{read-decimal-settles as text-code-read-decimal-settles}
pub use Rattle.text_code.proofs.Settled.{put-words-settles as text-code-put-words-settles}
pub use Rattle.text_code.proofs.Settled.{put-number-settles as text-code-put-number-settles}
pub use Rattle.text_code.proofs.Settled.{text-settles as text-code-text-settles}
-- crate answer_code
pub use Rattle.answer_code.proofs.Settled.{row-of-settles as answer-code-row-of-settles}
pub use Rattle.answer_code.proofs.Settled.{sense-of-settles as answer-code-sense-of-settles}
pub use Rattle.answer_code.proofs.Settled.{refusal-of-settles as answer-code-refusal-of-settles}
pub use Rattle.answer_code.proofs.Settled.{is-done-settles as answer-code-is-done-settles}
-- crate pointing_code
pub use Rattle.pointing_code.proofs.Settled.{check-rule-settles as pointing-code-check-rule-settles}
pub use Rattle.pointing_code.proofs.Settled.{check-zeros-settles as pointing-code-check-zeros-settles}
-- crate kad_code
pub use Rattle.kad_code.proofs.Settled.{lengths-good-settles as kad-code-lengths-good-settles}
pub use Rattle.kad_code.proofs.Settled.{tails-good-settles as kad-code-tails-good-settles}
pub use Rattle.kad_code.proofs.Settled.{is-zero-settles as kad-code-is-zero-settles}
pub use Rattle.kad_code.proofs.Settled.{read-settles as kad-code-read-settles}
pub use Rattle.kad_code.proofs.Settled.{write-settles as kad-code-write-settles}
-- crate parameters_code
pub use Rattle.parameters_code.proofs.Settled.{is-encrypt-settles as parameters-code-is-encrypt-settles}
pub use Rattle.parameters_code.proofs.Settled.{is-decrypt-or-mixed-settles as parameters-code-is-decrypt-or-mixed-settles}
pub use Rattle.parameters_code.proofs.Settled.{needs-key-settles as parameters-code-needs-key-settles}
pub use Rattle.parameters_code.proofs.Settled.{field-codes-settles as parameters-code-field-codes-settles}
pub use Rattle.parameters_code.proofs.Settled.{keys-past-settles as parameters-code-keys-past-settles}
pub use Rattle.parameters_code.proofs.Settled.{fields-zero-settles as parameters-code-fields-zero-settles}
-- crate page_code
pub use Rattle.page_code.proofs.Settled.{check-settles as page-code-check-settles}
-- crate device
pub use Rattle.device.proofs.Settled.{established-settles as device-established-settles}
-- crate device_code
pub use Rattle.device_code.proofs.Settled.{is-owned-settles as device-code-is-owned-settles}
pub use Rattle.device_code.proofs.Settled.{used-fits-settles as device-code-used-fits-settles}
pub use Rattle.device_code.proofs.Settled.{empty-is-zero-settles as device-code-empty-is-zero-settles}
-- crate words_code
pub use Rattle.words_code.proofs.Settled.{local-bit-settles as words-code-local-bit-settles}
pub use Rattle.words_code.proofs.Settled.{hold-settles as words-code-hold-settles}
pub use Rattle.words_code.proofs.Settled.{nexus-fits-settles as words-code-nexus-fits-settles}
pub use Rattle.words_code.proofs.Settled.{changed-at-settles as words-code-changed-at-settles}
-- crate status_code
pub use Rattle.status_code.proofs.Settled.{is-in-page-settles as status-code-is-in-page-settles}
pub use Rattle.status_code.proofs.Settled.{is-out-page-settles as status-code-is-out-page-settles}
pub use Rattle.status_code.proofs.Settled.{write-supported-in-settles as status-code-write-supported-in-settles}
pub use Rattle.status_code.proofs.Settled.{write-supported-out-settles as status-code-write-supported-out-settles}
pub use Rattle.status_code.proofs.Settled.{write-capabilities-settles as status-code-write-capabilities-settles}
pub use Rattle.status_code.proofs.Settled.{write-status-settles as status-code-write-status-settles}
pub use Rattle.status_code.proofs.Settled.{status-with-settles as status-code-status-with-settles}
pub use Rattle.status_code.proofs.Settled.{read-status-settles as status-code-read-status-settles}
-- crate marks_code
pub use Rattle.marks_code.proofs.Settled.{remark-settles as marks-code-remark-settles}
pub use Rattle.marks_code.proofs.Settled.{keeps-marks-settles as marks-code-keeps-marks-settles}
pub use Rattle.marks_code.proofs.Settled.{is-asked-settles as marks-code-is-asked-settles}
pub use Rattle.marks_code.proofs.Settled.{alert-settles as marks-code-alert-settles}
pub use Rattle.marks_code.proofs.Settled.{clear-marks-settles as marks-code-clear-marks-settles}
-- crate places_code
pub use Rattle.places_code.proofs.Settled.{draw-settles as places-code-draw-settles}
pub use Rattle.places_code.proofs.Settled.{free-settles as places-code-free-settles}
pub use Rattle.places_code.proofs.Settled.{room-by-settles as places-code-room-by-settles}
pub use Rattle.places_code.proofs.Settled.{is-no-room-settles as places-code-is-no-room-settles}
pub use Rattle.places_code.proofs.Settled.{needs-place-settles as places-code-needs-place-settles}
pub use Rattle.places_code.proofs.Settled.{nexus-after-settles as places-code-nexus-after-settles}
pub use Rattle.places_code.proofs.Settled.{append-settles as places-code-append-settles}
pub use Rattle.places_code.proofs.Settled.{is-due-settles as places-code-is-due-settles}
-- crate drive_code
pub use Rattle.drive_code.proofs.Settled.{hear-settles as drive-code-hear-settles}
pub use Rattle.drive_code.proofs.Settled.{check-command-settles as drive-code-check-command-settles}
pub use Rattle.drive_code.proofs.Settled.{check-write-settles as drive-code-check-write-settles}
pub use Rattle.drive_code.proofs.Settled.{decide-settles as drive-code-decide-settles}
pub use Rattle.drive_code.proofs.Settled.{value-of-settles as drive-code-value-of-settles}
pub use Rattle.drive_code.proofs.Settled.{block-of-settles as drive-code-block-of-settles}
pub use Rattle.drive_code.proofs.Settled.{restore-settles as drive-code-restore-settles}
pub use Rattle.drive_code.proofs.Settled.{read-value-of-settles as drive-code-read-value-of-settles}
pub use Rattle.drive_code.proofs.Settled.{check-event-settles as drive-code-check-event-settles}
pub use Rattle.drive_code.proofs.Settled.{actor-of-settles as drive-code-actor-of-settles}
-- crate record_code
pub use Rattle.record_code.proofs.Settled.{kads-bytes-settles as record-code-kads-bytes-settles}
pub use Rattle.record_code.proofs.Settled.{set-bytes-settles as record-code-set-bytes-settles}
pub use Rattle.record_code.proofs.Settled.{nexus-bytes-settles as record-code-nexus-bytes-settles}
pub use Rattle.record_code.proofs.Settled.{kads-read-settles as record-code-kads-read-settles}
pub use Rattle.record_code.proofs.Settled.{set-read-settles as record-code-set-read-settles}
pub use Rattle.record_code.proofs.Settled.{nexus-read-settles as record-code-nexus-read-settles}
pub use Rattle.record_code.proofs.Settled.{set-at-settles as record-code-set-at-settles}
pub use Rattle.record_code.proofs.Settled.{nexus-at-settles as record-code-nexus-at-settles}
pub use Rattle.record_code.proofs.Settled.{word-at-settles as record-code-word-at-settles}
-- crate calls_code
pub use Rattle.calls_code.proofs.Settled.{command-of-settles as calls-code-command-of-settles}
pub use Rattle.calls_code.proofs.Settled.{event-of-settles as calls-code-event-of-settles}
pub use Rattle.calls_code.proofs.Settled.{is-event-settles as calls-code-is-event-settles}
pub use Rattle.calls_code.proofs.Settled.{asked-of-settles as calls-code-asked-of-settles}
pub use Rattle.calls_code.proofs.Settled.{is-power-on-settles as calls-code-is-power-on-settles}
pub use Rattle.calls_code.proofs.Settled.{sender-number-settles as calls-code-sender-number-settles}
pub use Rattle.calls_code.proofs.Settled.{quietly-settles as calls-code-quietly-settles}
-- crate recording_code
pub use Rattle.recording_code.proofs.Settled.{verdict-number-settles as recording-code-verdict-number-settles}
pub use Rattle.recording_code.proofs.Settled.{entry-of-settles as recording-code-entry-of-settles}
pub use Rattle.recording_code.proofs.Settled.{sound-run-settles as recording-code-sound-run-settles}
pub use Rattle.recording_code.proofs.Settled.{asked-of-settles as recording-code-asked-of-settles}
pub use Rattle.recording_code.proofs.Settled.{page-of-settles as recording-code-page-of-settles}
pub use Rattle.recording_code.proofs.Settled.{header-of-settles as recording-code-header-of-settles}
pub use Rattle.recording_code.proofs.Settled.{header-bytes-settles as recording-code-header-bytes-settles}
pub use Rattle.recording_code.proofs.Settled.{events-of-settles as recording-code-events-of-settles}
pub use Rattle.recording_code.proofs.Settled.{pages-of-settles as recording-code-pages-of-settles}
pub use Rattle.recording_code.proofs.Settled.{is-sound-file-settles as recording-code-is-sound-file-settles}
-- crate batch_code
pub use Rattle.batch_code.proofs.Settled.{verdict-of-settles as batch-code-verdict-of-settles}
-- crate command_code
pub use Rattle.command_code.proofs.Settled.{request-of-settles as command-code-request-of-settles}
pub use Rattle.command_code.proofs.Settled.{has-data-settles as command-code-has-data-settles}
pub use Rattle.command_code.proofs.Settled.{order-of-settles as command-code-order-of-settles}
pub use Rattle.command_code.proofs.Settled.{holds-events-settles as command-code-holds-events-settles}
pub use Rattle.command_code.proofs.Settled.{batch-events-settles as command-code-batch-events-settles}
pub use Rattle.command_code.proofs.Settled.{batch-pages-settles as command-code-batch-pages-settles}
pub use Rattle.command_code.proofs.Settled.{reply-head-settles as command-code-reply-head-settles}
pub use Rattle.command_code.proofs.Settled.{values-head-settles as command-code-values-head-settles}
-- crate claim_code
pub use Rattle.claim_code.proofs.Settled.{became-settles as claim-code-became-settles}
pub use Rattle.claim_code.proofs.Settled.{row-of-nexus-settles as claim-code-row-of-nexus-settles}
pub use Rattle.claim_code.proofs.Settled.{row-line-settles as claim-code-row-line-settles}
pub use Rattle.claim_code.proofs.Settled.{total-line-settles as claim-code-total-line-settles}
-- crate why_code
pub use Rattle.why_code.proofs.Settled.{deed-of-settles as why-code-deed-of-settles}
pub use Rattle.why_code.proofs.Settled.{note-first-settles as why-code-note-first-settles}
pub use Rattle.why_code.proofs.Settled.{touch-for-settles as why-code-touch-for-settles}
pub use Rattle.why_code.proofs.Settled.{mode-for-settles as why-code-mode-for-settles}
pub use Rattle.why_code.proofs.Settled.{event-at-settles as why-code-event-at-settles}
-- crate sentence_code
pub use Rattle.sentence_code.proofs.Settled.{tell-settles as sentence-code-tell-settles}
pub use Rattle.sentence_code.proofs.Settled.{tell-write-settles as sentence-code-tell-write-settles}
-- crate salvage_code
pub use Rattle.salvage_code.proofs.Settled.{salvage-settles as salvage-code-salvage-settles}
pub use Rattle.salvage_code.proofs.Settled.{tell-settles as salvage-code-tell-settles}
