-- What is proved of the definitions. `Soundness.soundness` and `Completeness.completeness` are demand 3; `LogK.starred-cases`,
-- `LogK.ahead-cases` and `LogK.List-cases` are the table.

-- outcomes, strings, lists
pub mod Outcomes
pub mod Strings
pub mod Lists
-- trees and forests
pub mod Trees
pub mod Forest
pub mod Peaks
-- path digests, and records against true versions
pub mod Digests
pub mod Growth
pub mod Match
-- paths, the search, and the subgraph on its versions
pub mod Paths
pub mod Inside
pub mod Search
pub mod Subgraph
-- an accepted trace is the defined one
pub mod Backward
pub mod Forward
pub mod TraceReading
pub mod TraceExact
pub mod Showing
-- an accepted proof is the defined one, and its end the true verdict
pub mod Walk
pub mod WalkTruth
pub mod Open
pub mod Preorder
pub mod ProofPart
pub mod Verdicts
pub mod Truth
pub mod SoundnessOverGraphs
-- the defined answer is accepted
pub mod TraceWriting
pub mod DefinedTrace
pub mod CompletenessOverGraphs
-- logs
pub mod LogReading
pub mod LogGraph
pub mod FormerRows
pub mod LogLaws
pub mod Stops
pub mod Soundness
pub mod Completeness
pub mod CheckCall
-- further laws: the check's steps, the proof's length, the number of strings hashed
pub mod CheckSteps
pub mod Widths
pub mod HashedCount
pub mod RecordsPart
pub mod CallLaws
pub mod Asking
pub mod RowNumbers
pub mod Decimal
-- the running recorder
pub mod Recording
pub mod Reaching
pub mod EntityLeaves
-- Log K
pub mod LogK
pub mod Anchors
