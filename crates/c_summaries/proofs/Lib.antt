pub mod Places
pub mod BodeRuns
pub mod SensitivityRuns
pub mod CurveRuns
