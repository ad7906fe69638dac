pub mod Volumes
pub mod VolumeWriting
pub mod Texts
pub mod References
pub mod ReferenceWriting
